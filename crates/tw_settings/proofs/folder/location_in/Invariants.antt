-- the value so far and the lines left give what all give
use Rattle.std.proofs.Common.{◌≡◌, codes, option_copied}
use Rattle.tw_terms.specs.Cuts.{parts_of}
use Rattle.tw_terms.proofs.FirstParts.{left_len}
use Rattle.tw_settings.specs.Settings.{value_behind}
use Rattle.tw_settings.specs.Folder.{set_by, location_in}
use Rattle.tw_settings.proofs.folder.location_in.Given as goal

abbrev pub invariant-loop-left : goal.invariant-loop-left
invariant-loop-left l = value_behind (codes "data.location") (option_copied l.value) (set_by (parts_of 10 (option_copied l.left))) ≡ location_in l.settings

abbrev pub decreases-loop-left : goal.decreases-loop-left
decreases-loop-left l = left_len (option_copied l.left)
