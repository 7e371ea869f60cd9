-- A second use changes nothing.
use Rattle.std.specs.Prelude.{nat_lt, nat_le, IfSome, codes}
use Rattle.std.proofs.Common.{◌≡◌, inl, ℕ, Bool, true, false, cond, ◌&&◌, ◌||◌, List, [], ◌∷◌, ◌++◌, get_or, Option, Some, None, refl, sym, ap, ◌∙◌}
use Rattle.std.proofs.lemmas.Bool.{le-leb}
use Rattle.std.proofs.lemmas.Grind.{flat_map-append}
use Rattle.std.proofs.lemmas.List.Folds.{list_any-append}
use Rattle.std.specs.List.{flat_map, AllByRecursion}
use Rattle.std.specs.FinMap.{get, empty, entries, entries_sorted, get-entries}
use Rattle.std.proofs.lemmas.Cmp.{nat_list_cmp_total, tied_itself}
use Rattle.std.proofs.lemmas.List.Elements.{All-from_get_or, recursion_from_All}
use Rattle.uuid.specs.Text.{hyphenated_text, lower}
use Rattle.uuid.proofs.RoundTrips.{parses_hyphenated}
use Rattle.tw_model.specs.Maps.{same_bytes}
use Rattle.tw_model.specs.Ops.{TaskValue, TasksValue}
use Rattle.tw_model.proofs.Maps.{same_bytes_itself}
use Rattle.tw_model.proofs.Sorted.{find_found}
use Rattle.tw_urgency.specs.Stored.{moment_at}
use Rattle.tw_urgency.specs.Status.{has_status}
use Rattle.tw_urgency.specs.Dependencies.{uuid_in, written_so}
use Rattle.timew_interval.specs.declared.interval.Interval.{Interval}
use Rattle.timew_interval.specs.Placing.{spanning}
use Rattle.timew_bridge.specs.declared.active.Active.{Active}
use Rattle.timew_bridge.specs.Active.{started, started_from, later, latest_of, latest}
use Rattle.timew_bridge.specs.Tail.{IsClosed}
use Rattle.timew_bridge.specs.Uuids.{IsUuid, HaveUuids}
use Rattle.timew_bridge.specs.Track.{ended_if, let_go_by, let_go_from, let_go, released, released_by, given_way, is_tracked, free_from, opened, with_opened, tracking, followed, tracked}
use Rattle.timew_bridge.proofs.Stays.{released_stay, given_way_stay, all_closed}
use Rattle.timew_bridge.proofs.Order.{free_after}

-- ---- intervals that were let go

again_ended : (tasks : TasksValue) (now end : ℕ) (r : Interval) (b : Bool) → flat_map (released tasks now) (cond b (spanning r.start (Some end) r ∷ []) []) ≡ cond b (spanning r.start (Some end) r ∷ []) []
again_ended tasks now end r true = refl
again_ended tasks now end r false = refl

again_if : (tasks : TasksValue) (now : ℕ) (r : Interval) (o : Option ℕ) → released tasks now r ≡ ended_if o r → flat_map (released tasks now) (ended_if o r) ≡ ended_if o r
again_if tasks now r None is = ap (λ (l : List Interval). l ++ []) is
again_if tasks now r (Some end) is = again_ended tasks now end r (nat_lt r.start end)

again_one : (tasks : TasksValue) (now : ℕ) (r : Interval) (e : Option ℕ) → r.end ≡ e → flat_map (released tasks now) (released_by tasks now r e) ≡ released_by tasks now r e
again_one tasks now r (Some e) is = ap (λ (l : List Interval). l ++ []) (ap (released_by tasks now r) is)
again_one tasks now r None is = again_if tasks now r (let_go tasks now r.start (uuid_in r.annotation)) (ap (released_by tasks now r) is)

again_all : (tasks : TasksValue) (now : ℕ) (rows : List Interval) → flat_map (released tasks now) (flat_map (released tasks now) rows) ≡ flat_map (released tasks now) rows
again_all tasks now [] = refl
again_all tasks now (r ∷ rows) =
    flat_map-append (released tasks now) (released tasks now r) (flat_map (released tasks now) rows)
    ∙ rw (again_one tasks now r r.end refl, again_all tasks now rows) refl

-- ---- the task that was started last

-- it is a task of these, was started then, and has a uuid
pub record IsAmong (tasks : TasksValue) (a : Active) : Type 0 where
  pub task : TaskValue
  pub there : get tasks a.uuid ≡ Some task
  pub started_at : moment_at (codes "start") task ≡ Some a.start
  pub uuid : IsUuid a.uuid

later_among : (tasks : TasksValue) (a b : Option Active) → IfSome a (IsAmong tasks) → IfSome b (IsAmong tasks) → IfSome (later a b) (IsAmong tasks)
later_among tasks a None p q = p
later_among tasks None (Some b) p q = q
later_among tasks (Some a) (Some b) p q = by_case (nat_lt b.start a.start)
  where
    by_case : (t : Bool) → IfSome (cond t (Some a) (Some b)) (IsAmong tasks)
    by_case true = p
    by_case false = q

started_among : (tasks : TasksValue) (now : ℕ) (e : List ℕ × TaskValue) → get tasks e.0 ≡ Some e.1 → IsUuid e.0 → (p : Bool) (o : Option ℕ) → moment_at (codes "start") e.1 ≡ o → IfSome (cond p (started_from now e.0 o) None) (IsAmong tasks)
started_among tasks now e there is false o at = tt
started_among tasks now e there is true None at = tt
started_among tasks now e there is true (Some s) at = by_case (nat_le s now)
  where
    by_case : (t : Bool) → IfSome (cond t (Some (record { uuid = e.0; start = s })) None) (IsAmong tasks)
    by_case true = record { task = e.1; there = there; started_at = at; uuid = is }
    by_case false = tt

latest_among : (tasks : TasksValue) (now : ℕ) (es : List (List ℕ × TaskValue)) → AllByRecursion (λ e. (get tasks e.0 ≡ Some e.1) × IsUuid e.0) es → IfSome (latest_of now es) (IsAmong tasks)
latest_among tasks now [] are = tt
latest_among tasks now (e ∷ es) are = later_among tasks (started now e) (latest_of now es) (started_among tasks now e are.0.0 are.0.1 (has_status (codes "pending") e.1) (moment_at (codes "start") e.1) refl) (latest_among tasks now es are.1)

both_all : {X : Type 0} (P Q : X → Type 0) (xs : List X) → AllByRecursion P xs → AllByRecursion Q xs → AllByRecursion (λ x. P x × Q x) xs
both_all P Q [] p q = tt
both_all P Q (x ∷ xs) p q = ((p.0, q.0), both_all P Q xs p.1 q.1)

pub found_all : (tasks : TasksValue) → AllByRecursion (λ e. get tasks e.0 ≡ Some e.1) (entries tasks)
found_all tasks = recursion_from_All (λ (e : List ℕ × TaskValue). get tasks e.0 ≡ Some e.1) (entries tasks)
    (All-from_get_or (λ (e : List ℕ × TaskValue). get tasks e.0 ≡ Some e.1) (entries tasks) ([], empty) (λ i lt.
    get-entries tasks (get_or (entries tasks) i ([], empty)).0 ∙ find_found (get_or (entries tasks) i ([], empty)).0 (entries tasks) i ([], empty) (entries_sorted tasks) lt (tied_itself nat_list_cmp_total (get_or (entries tasks) i ([], empty)).0)))

pub latest_is : (tasks : TasksValue) (now : ℕ) → HaveUuids tasks → IfSome (latest tasks now) (IsAmong tasks)
latest_is tasks now have = latest_among tasks now (entries tasks) (both_all (λ e. get tasks e.0 ≡ Some e.1) (λ e. IsUuid e.0) (entries tasks) (found_all tasks) have)

-- ---- its interval

named_back : (u : List ℕ) → IsUuid u → uuid_in (hyphenated_text lower u) ≡ Some u
unfolding uuid_in
named_back u is =
    ap (written_so (hyphenated_text lower u)) (sym (parses_hyphenated lower u (inl refl) is.0 is.1))
    ∙ ap (λ b. cond b (Some u) None) (same_bytes_itself (hyphenated_text lower u))

goes_on : (tasks : TasksValue) (now from : ℕ) (a : Active) → IsAmong tasks a → released tasks now (opened tasks from a) ≡ opened tasks from a ∷ []
goes_on tasks now from a is =
    ap (λ o. ended_if (let_go tasks now from o) (opened tasks from a)) (named_back a.uuid is.uuid)
    ∙ ap (λ o. ended_if (let_go_from from now o) (opened tasks from a)) is.there
    ∙ ap (λ o. ended_if (let_go_by from now (moment_at (codes "modified") is.task) o) (opened tasks from a)) is.started_at

or_true : (b c : Bool) → c ≡ true → (b || (c || false)) ≡ true
or_true true c is = refl
or_true false true is = refl
or_true false false is = absurd (cc)

is_there : (tasks : TasksValue) (now : ℕ) (a : Active) (rows : List Interval) → is_tracked (hyphenated_text lower a.uuid) a.start (rows ++ opened tasks (free_from a.start rows) a ∷ []) ≡ true
is_there tasks now a rows =
    list_any-append (λ r. same_bytes r.annotation (hyphenated_text lower a.uuid) && nat_le a.start r.start) rows (opened tasks (free_from a.start rows) a ∷ [])
    ∙ or_true (is_tracked (hyphenated_text lower a.uuid) a.start rows) (same_bytes (hyphenated_text lower a.uuid) (hyphenated_text lower a.uuid) && nat_le a.start (free_from a.start rows))
    (rw (same_bytes_itself (hyphenated_text lower a.uuid)) (le-leb a.start (free_from a.start rows) (free_after a.start rows)))

-- ---- all together

pub again : (tasks : TasksValue) (rows : List Interval) (now : ℕ) → HaveUuids tasks → tracked tasks (tracked tasks rows now) now ≡ tracked tasks rows now
again tasks rows now have = of_latest (latest tasks now) (latest_is tasks now have)
  where
    f : Interval → List Interval
    f = released tasks now

    rows1 : List Interval
    rows1 = flat_map f rows

    of_latest : (o : Option Active) → IfSome o (IsAmong tasks) → followed tasks now o (flat_map f (followed tasks now o rows1)) ≡ followed tasks now o rows1
    of_latest None is = again_all tasks now rows
    of_latest (Some a) is = by_tracked (is_tracked name a.start rows1) refl
      where
        name : List ℕ
        name = hyphenated_text lower a.uuid

        rows2 : List Interval
        rows2 = flat_map (given_way a.start now) rows1

        closed : AllByRecursion IsClosed rows2
        closed = all_closed a.start now rows1

        from : ℕ
        from = free_from a.start rows2

        next : List Interval → List Interval
        next rows = followed tasks now (Some a) rows

        by_free : (t : Bool) → nat_le from now ≡ t → next (flat_map f (cond t (rows2 ++ opened tasks from a ∷ []) rows2)) ≡ cond t (rows2 ++ opened tasks from a ∷ []) rows2
        by_free true e =
            ap next (flat_map-append f rows2 (opened tasks from a ∷ []) ∙ rw (released_stay tasks now rows2 closed, goes_on tasks now from a is) refl)
            ∙ ap (λ b. cond b (rows2 ++ opened tasks from a ∷ []) (tracking tasks now a (flat_map (given_way a.start now) (rows2 ++ opened tasks from a ∷ [])))) (is_there tasks now a rows2)
        by_free false e =
            ap next (released_stay tasks now rows2 closed)
            ∙ ap (λ (l : List Interval). cond (is_tracked name a.start rows2) rows2 (with_opened tasks now (free_from a.start l) a l)) (given_way_stay a.start now rows2 closed)
            ∙ ap (λ b. cond (is_tracked name a.start rows2) rows2 (cond b (rows2 ++ opened tasks from a ∷ []) rows2)) e
            ∙ either (is_tracked name a.start rows2)
          where
            either : (b : Bool) → cond b rows2 rows2 ≡ rows2
            either true = refl
            either false = refl

        by_tracked : (t : Bool) → is_tracked name a.start rows1 ≡ t → next (flat_map f (cond t rows1 (tracking tasks now a rows2))) ≡ cond t rows1 (tracking tasks now a rows2)
        by_tracked true e = ap next (again_all tasks now rows) ∙ ap (λ b. cond b rows1 (tracking tasks now a rows2)) e
        by_tracked false e = by_free (nat_le from now) refl
