-- what is left has a vacant place where all have
use Rattle.std.proofs.Common.{◌≡◌, drop, is_none}
use Rattle.std.specs.List.{list_any}
use Rattle.tw_commands.proofs.commands.report.has_vacant.Given as goal

abbrev pub invariant-loop-place : goal.invariant-loop-place
invariant-loop-place l = list_any is_none (drop l.place-index l.places.items) ≡ list_any is_none l.places.items
