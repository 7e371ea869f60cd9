use Rattle.std.proofs.Common.{◌∙◌, true, false, sym}
use Rattle.tw_records.specs.Bodies.{block_size}
use Rattle.tw_records.specs.declared.walk.Source.TheVariants.{Block}
use Rattle.tw_records.specs.Table.{taken}
use Rattle.tw_server.specs.Faults.{read_in_opening}
use Rattle.tw_server.specs.Opening.{IfDamaged, IsDamageBy, OnTable}
use Rattle.tw_server.specs.Server.{magic}
use Rattle.tw_server.proofs.Openings.{damage_after}
use Rattle.tw_server.proofs.Refusals.{from_fault}
use Rattle.tw_server.proofs.Taken.{block_is, read_no_damage}
use Rattle.tw_server.proofs.server.Server.take_block.Goals as goal

pub returns-in_err-show-clause-damaged : goal.returns-in_err-show-clause-damaged
returns-in_err-show-clause-damaged g c =
    let m = g.D.Disk.model in
    from_fault (λ e. OnTable m c.args.self.now c.args.reader.now c.args.disk.now (λ bodies table. IfDamaged e (IsDamageBy (m.seen c.args.disk.now) bodies (taken block_size bodies table (Block c.args.n)))))
    c.from_residual.result (read_in_opening c.in_err-show.field-0.0) c.from_residual.ensures.1
    (λ bodies on shown table known. read_no_damage m c.args.self.now.journal c.args.disk.now c.show.new.disk magic bodies c.in_err-show.field-0.0 _ c.in_err-show.ensures.refused on)

pub returns-then-is_block_body-clause-taken : goal.returns-then-is_block_body-clause-taken
returns-then-is_block_body-clause-taken g c = λ bodies on shown table known.
    let is = c.as_slice.ensures.value ∙ c.in_ok-show.ensures.body magic bodies on shown in
    ((table, block_is table bodies c.args.n c.as_slice.result.now true is (sym c.is_block_body.ensures ∙ c.if-is_block_body.true), known), c.in_ok-show.ensures.shown magic bodies on shown)

pub returns-clause-damaged : goal.returns-clause-damaged
returns-clause-damaged g c = λ bodies on shown table known.
    let m = g.D.Disk.model in
    let is = c.as_slice.ensures.value ∙ c.in_ok-show.ensures.body magic bodies on shown in
    damage_after m c.args.self.now.journal c.args.disk.now c.show.new.disk bodies c.args.n c.damaged.result _ on c.in_ok-show.ensures.untouched c.requires.inside c.damaged.ensures.at
    (block_is table bodies c.args.n c.as_slice.result.now false is (sym c.is_block_body.ensures ∙ c.if-is_block_body.false))
