-- the parts left, after those that are read, give what all give
use Rattle.std.proofs.Common.{◌≡◌, option_copied}
use Rattle.tw_terms.specs.Cuts.{parts, parts_of}
use Rattle.tw_terms.specs.Scenes.{scene_of}
use Rattle.tw_terms.proofs.FirstParts.{left_len}
use Rattle.tw_words.specs.Readings.{with_items}
use Rattle.tw_words.proofs.changes.dependencies.push_items.Given as goal

abbrev pub invariant-loop-left : goal.invariant-loop-left
invariant-loop-left l = with_items (scene_of l.fn.view) l.changes.items (parts_of 44 (option_copied l.left)) ≡ with_items (scene_of l.fn.view) l.fn.changes.items (parts 44 l.fn.value)

abbrev pub decreases-loop-left : goal.decreases-loop-left
decreases-loop-left l = left_len (option_copied l.left)
