-- what is found after the settings passed
use Rattle.std.proofs.Common.{◌≡◌, drop, option_copied}
use Rattle.tw_settings.specs.Settings.{value_behind, value_of}
use Rattle.tw_settings.proofs.settings.Settings.get.Given as goal

abbrev pub invariant-loop-set : goal.invariant-loop-set
invariant-loop-set l = value_behind l.name (option_copied l.found) (drop l.set-index l.self) ≡ value_of l.name l.self
