use Rattle.std.proofs.Common.{◌∙◌, ap, sym, map, List, ℕ}
use Rattle.std.specs.List.{insert as insert_at}
use Rattle.std.specs.String.{string_bytes}
use Rattle.tw_world.proofs.Puts.{map-insert_at}
use Rattle.tw_world.proofs.memory_folder.add_name.Goals as goal

pub returns-in_ok-insert : goal.returns-in_ok-insert
returns-in_ok-insert c = ap (map string_bytes) c.in_ok-insert.ensures.items ∙ map-insert_at string_bytes c.args.names.now.items c.in-Err.at _ ∙ ap (λ (n : List ℕ). insert_at (map string_bytes c.args.names.now.items) c.in-Err.at n) c.in_ok-name.ensures.ok ∙ sym c.in-Err.ensures.absent.1
