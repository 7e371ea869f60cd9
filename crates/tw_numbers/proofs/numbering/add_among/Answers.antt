use Rattle.std.proofs.Common.{◌∙◌, sym}
use Rattle.std.specs.BTreeSet as tree
use Rattle.tw_model.specs.Maps.{bytes_cmp}
use Rattle.tw_numbers.proofs.SetInserts.{has_more}
use Rattle.tw_numbers.proofs.AssignedByLooks.{other_place}
use Rattle.tw_numbers.proofs.numbering.add_among.Goals as goal

pub returns-in_ok-insert : goal.returns-in_ok-insert
returns-in_ok-insert c = λ u inside. has_more (λ q. tree.contains bytes_cmp c.insert.new.self q) (λ q. tree.contains bytes_cmp c.args.placed.now q) u c.args.uuid (c.in_ok-insert.ensures.updates.0 u)

pub returns-else-contains : goal.returns-else-contains
returns-else-contains c = λ u inside. other_place c.args.touched.now.keys u c.args.uuid (tree.contains bytes_cmp c.args.placed.now u) inside (sym c.contains.ensures ∙ c.if-contains.false)
