-- the lines left, after what is set, give what all give
use Rattle.std.proofs.Common.{◌≡◌, ◌≤◌, ◌+◌, length, option_copied}
use Rattle.tw_terms.specs.Cuts.{parts, parts_of}
use Rattle.tw_terms.proofs.FirstParts.{left_len}
use Rattle.tw_settings.specs.Settings.{lines_from}
use Rattle.tw_settings.proofs.settings.read_lines.Given as goal

abbrev pub invariant-loop-left : goal.invariant-loop-left
invariant-loop-left l = (lines_from l.number l.pairs.items (parts_of 10 (option_copied l.left)) ≡ lines_from 1 l.fn.pairs.items (parts 10 l.bytes)) × (l.number + left_len (option_copied l.left) ≤ length l.bytes + 2)

abbrev pub decreases-loop-left : goal.decreases-loop-left
decreases-loop-left l = left_len (option_copied l.left)
