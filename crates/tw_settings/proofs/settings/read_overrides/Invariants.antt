-- the overrides left, after what is set, give what all give
use Rattle.std.proofs.Common.{◌≡◌, drop}
use Rattle.tw_settings.specs.Settings.{overridden}
use Rattle.tw_settings.proofs.settings.read_overrides.Given as goal

abbrev pub invariant-loop-name : goal.invariant-loop-name
invariant-loop-name l = overridden l.pairs.items (drop l.name-index l.overrides.items) ≡ overridden l.fn.pairs.items l.overrides.items
