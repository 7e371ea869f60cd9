-- the copies of what is left, beside those so far, are all
use Rattle.std.proofs.Common.{◌≡◌, drop}
use Rattle.std.specs.FinMap as map
use Rattle.tw_changes.specs.Makes.Duplicate.{copies_beside}
use Rattle.tw_changes.proofs.makes.duplicate.copies.Given as goal

abbrev pub invariant-loop-uuid : goal.invariant-loop-uuid
invariant-loop-uuid l =
    copies_beside l.words.items l.now l.ids l.tasks l.made (drop l.uuid-index l.rows.items) ≡ copies_beside l.words.items l.now l.fn.ids l.tasks map.empty l.rows.items
