use Rattle.std.proofs.Common.{◌≡◌}
use Rattle.std.specs.List.{list_any}
use Rattle.std.specs.FinMap.Entries.{where_key}
use Rattle.tw_model.specs.Maps.{bytes_cmp, same_bytes}
use Rattle.tw_terms.specs.Chosen.{chosen}
use Rattle.tw_report.specs.Texts.{count_all, count_of}
use Rattle.tw_report.proofs.names.count_rows.Given as goal

abbrev pub invariant-loop-uuid : goal.invariant-loop-uuid
invariant-loop-uuid l =
    count_all (count_of l.kind) l.counts (where_key bytes_cmp (λ u. list_any (same_bytes u) l.rows.items) l.uuid-iterator)
    ≡ count_all (count_of l.kind) l.initial.counts (chosen l.rows.items l.view.tasks.now)
