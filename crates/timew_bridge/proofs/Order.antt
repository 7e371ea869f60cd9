-- Intervals that tasks drive are in order.
use Rattle.std.specs.Prelude.{is_some, max, unwrap_or, nat_lt, nat_le, IfSome, codes}
use Rattle.std.proofs.Common.{◌≡◌, ℕ, ◌<◌, ◌≤◌, Bool, true, false, cond, ◌&&◌, List, [], ◌∷◌, ◌++◌, Option, Some, None, refl, sym, ap, subst, arith}
use Rattle.std.proofs.lemmas.Bool.{ltb-true, leb-true}
use Rattle.std.specs.List.{flat_map, AllByRecursion}
use Rattle.std.specs.FinMap.{get, entries}
use Rattle.uuid.specs.Text.{hyphenated_text, lower}
use Rattle.tw_model.specs.Ops.{TaskValue, TasksValue}
use Rattle.tw_urgency.specs.Stored.{moment_at}
use Rattle.tw_urgency.specs.Status.{has_status}
use Rattle.tw_urgency.specs.Dependencies.{uuid_in}
use Rattle.timew_interval.specs.declared.interval.Interval.{Interval}
use Rattle.timew_interval.specs.Interval.{limit, IsRow, EndsBy, IsBefore, AreRows}
use Rattle.timew_interval.specs.Placing.{spanning}
use Rattle.timew_bridge.specs.declared.active.Active.{Active}
use Rattle.timew_bridge.specs.Active.{started, started_from, later, latest_of, latest}
use Rattle.timew_bridge.specs.Tail.{IsClosed}
use Rattle.timew_bridge.specs.Track.{ended_if, let_go_at, let_go_by, let_go_from, let_go, released, released_by, given_way, given_way_by, is_tracked, free_from, opened, tracking, followed, tracked}
use Rattle.timew_bridge.proofs.Labels.{label_good}
use Rattle.timew_bridge.proofs.Printable.{name_printable}
use Rattle.timew_bridge.proofs.Stays.{all_closed}

-- ---- rows that stay, end or go

-- what becomes of an interval: it stays, and an open one may end behind its start or go
pub data IsCut (r : Interval) : List Interval → Type 0 where
  stays : IsCut r (r ∷ [])
  goes : r.end ≡ None → IsCut r []
  ends : (end : ℕ) → r.end ≡ None → r.start < end → end < limit → IsCut r (spanning r.start (Some end) r ∷ [])

none_behind : (end : Option ℕ) (rows : List Interval) → end ≡ None → IsBefore end rows → rows ≡ []
none_behind None [] is before = refl
none_behind None (r ∷ rows) is before = absurd before
none_behind (Some e) rows is before = absurd (cc)

before_cut : (f : Interval → List Interval) → ((r : Interval) → IsRow r → IsCut r (f r)) → (end : Option ℕ) (rows : List Interval) → AreRows rows → IsBefore end rows → IsBefore end (flat_map f rows)
before_cut f cut end [] are before = tt
before_cut f cut end (s ∷ rows) are before = of_cut (f s) (cut s are.0)
  where
    of_cut : (l : List Interval) → IsCut s l → IsBefore end (l ++ flat_map f rows)
    of_cut l stays = before
    of_cut l (goes is) = subst (λ (more : List Interval). IsBefore end (flat_map f more)) (sym (none_behind s.end rows is are.1)) tt
    of_cut l (ends e is later small) = before

pub cut_rows : (f : Interval → List Interval) → ((r : Interval) → IsRow r → IsCut r (f r)) → (rows : List Interval) → AreRows rows → AreRows (flat_map f rows)
cut_rows f cut [] are = tt
cut_rows f cut (r ∷ rows) are = of_cut (f r) (cut r are.0) (cut_rows f cut rows are.2)
  where
    none : r.end ≡ None → flat_map f rows ≡ []
    none is = ap (flat_map f) (none_behind r.end rows is are.1)

    of_cut : (l : List Interval) → IsCut r l → AreRows (flat_map f rows) → AreRows (l ++ flat_map f rows)
    of_cut l stays rest = (are.0, before_cut f cut r.end rows are.2 are.1, rest)
    of_cut l (goes is) rest = rest
    of_cut l (ends e is later small) rest = subst (λ (more : List Interval). AreRows (spanning r.start (Some e) r ∷ more)) (sym (none is))
        (record { start = are.0.start; end = (omega (arith, later), small); tags = are.0.tags; rise = are.0.rise; annotation = are.0.annotation }, tt, tt)

ended_cut : (end : ℕ) (r : Interval) → r.end ≡ None → end < limit → (b : Bool) → nat_lt r.start end ≡ b → IsCut r (cond b (spanning r.start (Some end) r ∷ []) [])
ended_cut end r is small true t = ends end is (ltb-true r.start end t) small
ended_cut end r is small false t = goes is

given_way_cut : (start now : ℕ) → start < limit → now < limit → (r : Interval) (e : Option ℕ) → r.end ≡ e → IsCut r (given_way_by start now r e)
given_way_cut start now early soon r (Some e) is = stays
given_way_cut start now early soon r None is = ended_cut (cond (nat_lt r.start start) start now) r is (either (nat_lt r.start start)) (nat_lt r.start (cond (nat_lt r.start start) start now)) refl
  where
    either : (b : Bool) → cond b start now < limit
    either true = early
    either false = soon

let_go_small : (start now : ℕ) → now < limit → (modified : Option ℕ) → let_go_at start now modified < limit
let_go_small start now soon None = soon
let_go_small start now soon (Some at) = by_case (nat_lt start at) (nat_le at now) refl
  where
    by_case : (a b : Bool) → nat_le at now ≡ b → cond (a && b) at now < limit
    by_case true true is = omega (arith, leb-true at now is, soon)
    by_case true false is = soon
    by_case false b is = soon

ended_if_cut : (o : Option ℕ) (r : Interval) → r.end ≡ None → IfSome o (λ end. end < limit) → IsCut r (ended_if o r)
ended_if_cut None r is small = stays
ended_if_cut (Some end) r is small = ended_cut end r is small (nat_lt r.start end) refl

let_go_all_small : (tasks : TasksValue) (now start : ℕ) → now < limit → (u : Option (List ℕ)) → IfSome (let_go tasks now start u) (λ end. end < limit)
let_go_all_small tasks now start soon None = tt
let_go_all_small tasks now start soon (Some u) = of_task (get tasks u)
  where
    of_start : (modified s : Option ℕ) → IfSome (let_go_by start now modified s) (λ end. end < limit)
    of_start modified None = let_go_small start now soon modified
    of_start modified (Some s) = tt

    of_task : (o : Option TaskValue) → IfSome (let_go_from start now o) (λ end. end < limit)
    of_task None = soon
    of_task (Some task) = of_start (moment_at (codes "modified") task) (moment_at (codes "start") task)

released_cut : (tasks : TasksValue) (now : ℕ) → now < limit → (r : Interval) (e : Option ℕ) → r.end ≡ e → IsCut r (released_by tasks now r e)
released_cut tasks now soon r (Some e) is = stays
released_cut tasks now soon r None is = ended_if_cut (let_go tasks now r.start (uuid_in r.annotation)) r is (let_go_all_small tasks now r.start soon (uuid_in r.annotation))

-- ---- the one behind all others

pub free_after : (s : ℕ) (rows : List Interval) → s ≤ free_from s rows
free_after s [] = omega arith
free_after s (r ∷ rows) = let h : max s (unwrap_or r.end 0) ≤ free_from (max s (unwrap_or r.end 0)) rows = free_after (max s (unwrap_or r.end 0)) rows in omega (arith, h)

all_end : (s : ℕ) (rows : List Interval) → AllByRecursion (λ r. unwrap_or r.end 0 ≤ free_from s rows) rows
all_end s [] = tt
all_end s (r ∷ rows) = (let h : max s (unwrap_or r.end 0) ≤ free_from (max s (unwrap_or r.end 0)) rows = free_after (max s (unwrap_or r.end 0)) rows in omega (arith, h), all_end (max s (unwrap_or r.end 0)) rows)

ends_by_is : (e : Option ℕ) (b : ℕ) → is_some e ≡ true → unwrap_or e 0 ≤ b → EndsBy e b
ends_by_is None b is le = absurd (cc)
ends_by_is (Some e) b is le = le

behind_rows : (new : Interval) (rows : List Interval) → IsRow new → AllByRecursion IsClosed rows → AllByRecursion (λ r. unwrap_or r.end 0 ≤ new.start) rows → AreRows rows → AreRows (rows ++ new ∷ [])
behind_rows new [] is closed end are = (is, tt, tt)
behind_rows new (r ∷ []) is closed end are = (are.0, ends_by_is r.end new.start closed.0 end.0, (is, tt, tt))
behind_rows new (r ∷ s ∷ rows) is closed end are = (are.0, are.1, behind_rows new (s ∷ rows) is closed.1 end.1 are.2)

opened_row : (tasks : TasksValue) (from : ℕ) (a : Active) → from < limit → IsRow (opened tasks from a)
opened_row tasks from a small = record { start = small; end = tt; tags = (label_good (get tasks a.uuid)).0; rise = (label_good (get tasks a.uuid)).1; annotation = name_printable a.uuid }

-- ---- the task that was started last

abbrev pub StartsBy : ℕ → Option Active → Type 0
StartsBy now o = IfSome o (λ (a : Active). a.start ≤ now)

later_by : (now : ℕ) (a b : Option Active) → StartsBy now a → StartsBy now b → StartsBy now (later a b)
later_by now a None p q = p
later_by now None (Some b) p q = q
later_by now (Some a) (Some b) p q = by_case (nat_lt b.start a.start)
  where
    by_case : (t : Bool) → StartsBy now (cond t (Some a) (Some b))
    by_case true = p
    by_case false = q

started_by : (now : ℕ) (u : List ℕ) (o : Option ℕ) → StartsBy now (started_from now u o)
started_by now u None = tt
started_by now u (Some s) = by_case (nat_le s now) refl
  where
    by_case : (t : Bool) → nat_le s now ≡ t → StartsBy now (cond t (Some (record { uuid = u; start = s })) None)
    by_case true is = leb-true s now is
    by_case false is = tt

latest_by : (now : ℕ) (es : List (List ℕ × TaskValue)) → StartsBy now (latest_of now es)
latest_by now [] = tt
latest_by now (e ∷ es) = later_by now (started now e) (latest_of now es) (by_case (has_status (codes "pending") e.1)) (latest_by now es)
  where
    by_case : (t : Bool) → StartsBy now (cond t (started_from now e.0 (moment_at (codes "start") e.1)) None)
    by_case true = started_by now e.0 (moment_at (codes "start") e.1)
    by_case false = tt

-- ---- all together

pub tracked_rows : (tasks : TasksValue) (rows : List Interval) (now : ℕ) → now < limit → AreRows rows → AreRows (tracked tasks rows now)
tracked_rows tasks rows now soon are = of_latest (latest tasks now) (latest_by now (entries tasks))
  where
    rows1 : List Interval
    rows1 = flat_map (released tasks now) rows

    are1 : AreRows rows1
    are1 = cut_rows (released tasks now) (λ r is. released_cut tasks now soon r r.end refl) rows are

    of_latest : (o : Option Active) → StartsBy now o → AreRows (followed tasks now o rows1)
    of_latest None by = are1
    of_latest (Some a) by = by_tracked (is_tracked (hyphenated_text lower a.uuid) a.start rows1)
      where
        rows2 : List Interval
        rows2 = flat_map (given_way a.start now) rows1

        are2 : AreRows rows2
        are2 = cut_rows (given_way a.start now) (λ r is. given_way_cut a.start now (omega (arith, by, soon)) soon r r.end refl) rows1 are1

        by_free : (t : Bool) → nat_le (free_from a.start rows2) now ≡ t → AreRows (cond t (rows2 ++ opened tasks (free_from a.start rows2) a ∷ []) rows2)
        by_free true is = behind_rows (opened tasks (free_from a.start rows2) a) rows2 (opened_row tasks (free_from a.start rows2) a (omega (arith, leb-true (free_from a.start rows2) now is, soon))) (all_closed a.start now rows1) (all_end a.start rows2) are2
        by_free false is = are2

        by_tracked : (t : Bool) → AreRows (cond t rows1 (tracking tasks now a rows2))
        by_tracked true = are1
        by_tracked false = by_free (nat_le (free_from a.start rows2) now) refl
