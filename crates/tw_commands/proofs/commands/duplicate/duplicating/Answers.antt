use Rattle.std.proofs.Common.{◌∙◌, sym}
use Rattle.std.specs.FinMap as map
use Rattle.std.specs.FinMap.{len-entries}
use Rattle.tw_commands.proofs.Copies.{none_made, some_made}
use Rattle.tw_commands.proofs.commands.duplicate.duplicating.Goals as goal

pub returns-then-len-eq0 : goal.returns-then-len-eq0
returns-then-len-eq0 c = none_made (map.entries c.args.made) (sym (len-entries c.args.made) ∙ sym c.len.ensures ∙ c.if-len-eq0.true)

pub returns : goal.returns
returns c =
    some_made (map.entries c.args.made) c.len-count.result c.in_ok-changes.changes.items c.new.result.items (λ e. absurd (c.if-len-eq0.false (c.len.ensures ∙ len-entries c.args.made ∙ e)))
    (c.len-count.ensures ∙ len-entries c.args.made) c.in_ok-changes.ensures c.new.ensures.items
