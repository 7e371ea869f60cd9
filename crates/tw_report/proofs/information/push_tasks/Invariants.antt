use Rattle.std.proofs.Common.{◌≡◌, ◌++◌, true}
use Rattle.std.specs.List.{list_any}
use Rattle.std.specs.FinMap.Entries.{where_key}
use Rattle.tw_model.specs.Maps.{bytes_cmp, same_bytes}
use Rattle.tw_report.specs.Sight.{sight_in}
use Rattle.tw_terms.specs.Chosen.{chosen}
use Rattle.tw_report.specs.Texts.{all_information}
use Rattle.tw_report.proofs.information.push_tasks.Given as goal

abbrev pub invariant-loop-uuid : goal.invariant-loop-uuid
invariant-loop-uuid l =
    l.text.items ++ all_information l.is_first (sight_in l.look) (where_key bytes_cmp (λ u. list_any (same_bytes u) l.rows.items) l.uuid-iterator)
    ≡ l.initial.text.items ++ all_information true (sight_in l.look) (chosen l.rows.items l.look.view.now.tasks.now)
