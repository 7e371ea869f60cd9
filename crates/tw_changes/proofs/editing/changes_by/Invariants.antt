-- the changes so far and those of what is left are all
use Rattle.std.proofs.Common.{◌≡◌, ◌++◌, drop}
use Rattle.tw_changes.specs.Effects.{changes_by}
use Rattle.tw_changes.specs.Editing.{effect_by}
use Rattle.tw_changes.proofs.editing.changes_by.Given as goal

abbrev pub invariant-loop-uuid : goal.invariant-loop-uuid
invariant-loop-uuid l =
    l.changes.items ++ changes_by (effect_by l.request l.words.items) l.request.at l.tasks (drop l.uuid-index l.rows.items)
    ≡ changes_by (effect_by l.request l.words.items) l.request.at l.tasks l.rows.items
