use Rattle.std.proofs.Common.{◌≡◌, []}
use Rattle.std.specs.List.{list_any}
use Rattle.std.specs.FinMap.Entries.{where_key}
use Rattle.tw_model.specs.Maps.{bytes_cmp, same_bytes}
use Rattle.tw_report.specs.Sight.{sight_in}
use Rattle.tw_terms.specs.Chosen.{chosen}
use Rattle.tw_report.specs.Order.{with_ranks}
use Rattle.tw_report.proofs.rank.ranks_of.Given as goal

abbrev pub invariant-loop-uuid : goal.invariant-loop-uuid
invariant-loop-uuid l =
    with_ranks l.report (sight_in l.look) l.ranks.keys (where_key bytes_cmp (λ u. list_any (same_bytes u) l.rows.items) l.uuid-iterator)
    ≡ with_ranks l.report (sight_in l.look) [] (chosen l.rows.items l.look.view.now.tasks.now)
