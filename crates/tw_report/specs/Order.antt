-- The order of a report's rows.
use Rattle.std.specs.Prelude.{ℕ, List, [], ◌∷◌, Option, Some, None, codes, ℤ, pos, neg_ℤ}
use Rattle.std.specs.declared.cmp.Ordering.{Ordering}
use Rattle.std.specs.Ordering.{int_cmp, ordering_then}
use Rattle.std.specs.BTreeSet.{insert_key}
use Rattle.tw_world.specs.declared.moment.TheConstants.{MOMENT_LIMIT}
use Rattle.tw_model.specs.Maps.{bytes_cmp}
use Rattle.tw_model.specs.Ops.{TaskValue}
use Rattle.tw_urgency.specs.Stored.{moment_at}
use Rattle.tw_urgency.specs.Urgency.{urgency}
use Rattle.tw_report.specs.Sight.{Sight}
use Rattle.tw_terms.specs.Chosen.{Entry}
use Rattle.tw_report.specs.declared.report.Report.{Report}
use Rattle.tw_report.specs.declared.report.Report.TheVariants.{List as Listed, Next, All, Completed, Waiting, Blocked}

-- by which rows stand in order: a number, and the uuid
abbrev pub Rank : Type 0
Rank = ℤ × List ℕ

abbrev pub rank_cmp : Rank → Rank → Ordering
rank_cmp a b = ordering_then (int_cmp a.0 b.0) (bytes_cmp a.1 b.1)

-- a moment, and an absent one after all others
abbrev pub absent_last : Option ℕ → ℤ
absent_last None = pos MOMENT_LIMIT
absent_last (Some at) = pos at

-- the number by which a task stands in a report: its moment, or the greatest urgency first
abbrev pub rank_number : Report → Sight → List ℕ → TaskValue → ℤ
rank_number Listed s u task = absent_last (moment_at (codes "due") task)
rank_number Next s u task = neg_ℤ (urgency s.tasks u s.now s.weights)
rank_number All s u task = pos 0
rank_number Completed s u task = absent_last (moment_at (codes "end") task)
rank_number Waiting s u task = absent_last (moment_at (codes "wait") task)
rank_number Blocked s u task = absent_last (moment_at (codes "due") task)

abbrev pub rank_of : Report → Sight → Entry → Rank
rank_of r s e = (rank_number r s e.0 e.1, e.0)

-- ranks with those of tasks, each in its order
abbrev pub with_ranks : Report → Sight → List Rank → List Entry → List Rank
with_ranks r s ranks [] = ranks
with_ranks r s ranks (e ∷ es) = with_ranks r s (insert_key rank_cmp ranks (rank_of r s e)) es
