use Rattle.std.proofs.Common.{◌≡◌, map, option_map}
use Rattle.tw_import.specs.Meanings.{dependencies_of}
use Rattle.tw_import.specs.MemberValues.{items_in}
use Rattle.tw_import.proofs.member_value.dependencies_in.Given as goal

abbrev pub invariant-loop-part : goal.invariant-loop-part
invariant-loop-part l = option_map (λ v. items_in v.items) l.found ≡ dependencies_of (map (λ p. p.now) l.yielded)
