-- what was added and what is left give what all give
use Rattle.std.proofs.Common.{◌≡◌, ◌++◌, option_copied}
use Rattle.tw_terms.specs.Cuts.{parts, parts_of}
use Rattle.tw_terms.specs.Tokens.{ranged}
use Rattle.tw_terms.proofs.FirstParts.{left_len}
use Rattle.tw_terms.proofs.token.push_ranges.Given as goal

abbrev pub invariant-loop-left : goal.invariant-loop-left
invariant-loop-left l = l.tokens.items ++ ranged (parts_of 44 (option_copied l.left)) ≡ l.fn.tokens.items ++ ranged (parts 44 l.fn.text)

abbrev pub decreases-loop-left : goal.decreases-loop-left
decreases-loop-left l = left_len (option_copied l.left)
