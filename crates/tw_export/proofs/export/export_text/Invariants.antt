use Rattle.std.proofs.Common.{◌≡◌, ◌++◌, map, codes}
use Rattle.std.specs.List.{list_any}
use Rattle.std.specs.FinMap.Entries.{where_key}
use Rattle.tw_model.specs.Maps.{bytes_cmp, same_bytes}
use Rattle.tw_export.specs.Export.{lines}
use Rattle.tw_terms.specs.Chosen.{chosen}
use Rattle.tw_export.specs.Export.{entry_text}
use Rattle.tw_export.proofs.TaskLines.{to_follow}
use Rattle.tw_export.proofs.export.export_text.Given as goal

abbrev pub invariant-loop-uuid : goal.invariant-loop-uuid
invariant-loop-uuid l =
    l.text.items ++ to_follow l.is_first (map (entry_text l.tasks l.now.seconds l.weights) (where_key bytes_cmp (λ u. list_any (same_bytes u) l.rows.items) l.uuid-iterator))
    ≡ codes "[\n" ++ lines (map (entry_text l.tasks l.now.seconds l.weights) (chosen l.rows.items l.tasks))
