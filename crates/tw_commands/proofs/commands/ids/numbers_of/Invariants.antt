-- the numbers so far and those of the places that are left are all
use Rattle.std.proofs.Common.{◌≡◌, ◌+◌, ◌++◌, drop, map, string_bytes}
use Rattle.tw_commands.specs.Looks.Ids.{numbers_from}
use Rattle.tw_commands.proofs.commands.ids.numbers_of.Given as goal

abbrev pub invariant-loop-at : goal.invariant-loop-at
invariant-loop-at l = map string_bytes l.words.items ++ numbers_from (l.at + 1) l.rows.items (drop l.at l.places.items) ≡ numbers_from 1 l.rows.items l.places.items
