-- What is known of tasks is what they say of intervals.
use Rattle.std.specs.Prelude.{is_some, codes}
use Rattle.std.proofs.Common.{◌≡◌, ℕ, Bool, true, false, cond, List, [], ◌∷◌, ◌++◌, map, Option, Some, None, refl, sym, ap, ◌∙◌}
use Rattle.std.specs.List.{flat_map}
use Rattle.std.specs.Ordering.{is_eq}
use Rattle.std.specs.Cmp.Lexicographic.{texts_ties}
use Rattle.std.specs.FinMap.{find, get, entries, get-entries}
use Rattle.tw_model.specs.Maps.{bytes_cmp}
use Rattle.tw_model.specs.Ops.{TaskValue, TasksValue}
use Rattle.tw_urgency.specs.Stored.{moment_of, moment_at}
use Rattle.tw_urgency.specs.Dependencies.{uuid_in}
use Rattle.timew_interval.specs.declared.interval.Interval.{Interval}
use Rattle.timew_bridge.specs.Track.{ended_if, let_go_at, let_go_by, let_go_from, let_go, released, released_by}
use Rattle.timew_bridge.specs.Known.{known_of, all_known, find_known, known_lets_go, known_end, known_by, released_known}

one_says : (start now : ℕ) (modified started : Option ℕ) → cond (is_some started) None (Some (let_go_at start now modified)) ≡ let_go_by start now modified started
one_says start now modified None = refl
one_says start now modified (Some s) = refl

-- the moment is read from the text that is kept
read_later : (task : TaskValue) → moment_of (get task (codes "modified")) ≡ moment_at (codes "modified") task
unfolding moment_at
read_later task = refl

entries_say : (start now : ℕ) (u : List ℕ) (es : List (List ℕ × TaskValue)) → known_lets_go start now (find_known u (map known_of es)) ≡ let_go_from start now (find bytes_cmp u es)
entries_say start now u [] = refl
entries_say start now u (e ∷ es) = ap (λ b. known_lets_go start now (cond b (Some (known_of e)) (find_known u (map known_of es)))) (texts_ties u e.0) ∙ by (entries_say start now u es) (is_eq (bytes_cmp u e.0))
  where
    by : known_lets_go start now (find_known u (map known_of es)) ≡ let_go_from start now (find bytes_cmp u es) → (b : Bool) → known_lets_go start now (cond b (Some (known_of e)) (find_known u (map known_of es))) ≡ let_go_from start now (cond b (Some e.1) (find bytes_cmp u es))
    by rest true =
        ap (λ m. cond (is_some (moment_at (codes "start") e.1)) None (Some (let_go_at start now m))) (read_later e.1)
        ∙ one_says start now (moment_at (codes "modified") e.1) (moment_at (codes "start") e.1)
    by rest false = rest

end_says : (tasks : TasksValue) (now start : ℕ) (o : Option (List ℕ)) → known_end (all_known tasks) now start o ≡ let_go tasks now start o
end_says tasks now start None = refl
end_says tasks now start (Some u) = entries_say start now u (entries tasks) ∙ ap (let_go_from start now) (sym (get-entries tasks u))

row_says : (tasks : TasksValue) (now : ℕ) (r : Interval) (e : Option ℕ) → known_by (all_known tasks) now r e ≡ released_by tasks now r e
row_says tasks now r None = ap (λ o. ended_if o r) (end_says tasks now r.start (uuid_in r.annotation))
row_says tasks now r (Some end) = refl

pub rows_say : (tasks : TasksValue) (now : ℕ) (rows : List Interval) → flat_map (released_known (all_known tasks) now) rows ≡ flat_map (released tasks now) rows
rows_say tasks now [] = refl
rows_say tasks now (r ∷ rows) =
    ap (λ l. l ++ flat_map (released_known (all_known tasks) now) rows) (row_says tasks now r r.end)
    ∙ ap (λ l. released tasks now r ++ l) (rows_say tasks now rows)
