-- the texts so far and those of what is left are all
use Rattle.std.proofs.Common.{◌≡◌, ◌++◌, drop, map, string_bytes}
use Rattle.uuid.specs.Text.{hyphenated_text, lower}
use Rattle.tw_commands.proofs.commands.ids.uuid_texts.Given as goal

abbrev pub invariant-loop-uuid : goal.invariant-loop-uuid
invariant-loop-uuid l = map string_bytes l.words.items ++ map (hyphenated_text lower) (drop l.uuid-index l.rows.items) ≡ map (hyphenated_text lower) l.rows.items
