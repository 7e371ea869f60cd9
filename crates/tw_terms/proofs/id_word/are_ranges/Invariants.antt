use Rattle.std.proofs.Common.{◌≡◌, option_copied, is_some}
use Rattle.tw_terms.specs.Cuts.{parts, parts_of}
use Rattle.tw_terms.specs.IdWords.{ranges_in}
use Rattle.tw_terms.proofs.FirstParts.{left_len}
use Rattle.tw_terms.proofs.id_word.are_ranges.Given as goal

abbrev pub invariant-loop-left : goal.invariant-loop-left
invariant-loop-left l = is_some (ranges_in (parts_of 44 (option_copied l.left))) ≡ is_some (ranges_in (parts 44 l.fn.text))

abbrev pub decreases-loop-left : goal.decreases-loop-left
decreases-loop-left l = left_len (option_copied l.left)
