-- the parts left are right where all are
use Rattle.std.proofs.Common.{◌≡◌, option_copied}
use Rattle.tw_terms.specs.Cuts.{parts, parts_of}
use Rattle.tw_terms.proofs.FirstParts.{left_len}
use Rattle.tw_words.specs.Modifications.{are_items}
use Rattle.tw_words.proofs.changes.depends_part.are_items.Given as goal

abbrev pub invariant-loop-left : goal.invariant-loop-left
invariant-loop-left l = are_items (parts_of 44 (option_copied l.left)) ≡ are_items (parts 44 l.fn.text)

abbrev pub decreases-loop-left : goal.decreases-loop-left
decreases-loop-left l = left_len (option_copied l.left)
