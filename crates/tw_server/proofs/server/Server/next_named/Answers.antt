use Rattle.std.proofs.Common.{◌∙◌, ◌&&◌, sym, ap, if◌then◌else◌, Some, None}
use Rattle.tw_records.specs.Bodies.{is_next_entry}
use Rattle.tw_records.specs.Table.{entry_at}
use Rattle.tw_server.proofs.server.Server.next_named.Goals as goal

pub returns-then-not-is_block_body-clause-next : goal.returns-then-not-is_block_body-clause-next
returns-then-not-is_block_body-clause-next c log knows =
    let e = entry_at c.args.place c.args.block.now in
    sym (ap (λ t. if t && is_next_entry log.versions e then Some e else None) (sym c.is_block_body.ensures ∙ c.if-not-is_block_body.true))

pub returns-clause-next : goal.returns-clause-next
returns-clause-next c log knows =
    let e = entry_at c.args.place c.args.block.now in
    c.if_next.ensures log knows ∙ ap (λ x. if is_next_entry log.versions x then Some x else None) c.entry_at.ensures
    ∙ sym (ap (λ t. if t && is_next_entry log.versions e then Some e else None) (sym c.is_block_body.ensures ∙ c.if-not-is_block_body.false))
