-- Intervals that have ended stay.
use Rattle.std.specs.Prelude.{is_some, nat_lt}
use Rattle.std.proofs.Common.{◌≡◌, ℕ, Bool, true, false, cond, List, [], ◌∷◌, ◌++◌, Option, Some, None, refl, ap, ◌∙◌}
use Rattle.std.proofs.lemmas.Grind.{flat_map-append}
use Rattle.std.specs.List.{flat_map, AllByRecursion}
use Rattle.tw_model.specs.Ops.{TasksValue}
use Rattle.timew_interval.specs.declared.interval.Interval.{Interval}
use Rattle.timew_bridge.specs.Tail.{IsClosed}
use Rattle.timew_bridge.specs.Track.{released, released_by, given_way, given_way_by}

pub stay : (f : Interval → List Interval) → ((r : Interval) → IsClosed r → f r ≡ r ∷ []) → (rows : List Interval) → AllByRecursion IsClosed rows → flat_map f rows ≡ rows
stay f one [] closed = refl
stay f one (r ∷ rows) closed = rw (one r closed.0, stay f one rows closed.1) refl

released_one : (tasks : TasksValue) (now : ℕ) (r : Interval) (e : Option ℕ) → is_some e ≡ true → released_by tasks now r e ≡ r ∷ []
released_one tasks now r None is = absurd (cc)
released_one tasks now r (Some e) is = refl

given_way_one : (start now : ℕ) (r : Interval) (e : Option ℕ) → is_some e ≡ true → given_way_by start now r e ≡ r ∷ []
given_way_one start now r None is = absurd (cc)
given_way_one start now r (Some e) is = refl

pub released_stay : (tasks : TasksValue) (now : ℕ) (rows : List Interval) → AllByRecursion IsClosed rows → flat_map (released tasks now) rows ≡ rows
released_stay tasks now rows closed = stay (released tasks now) (λ r is. released_one tasks now r r.end is) rows closed

pub given_way_stay : (start now : ℕ) (rows : List Interval) → AllByRecursion IsClosed rows → flat_map (given_way start now) rows ≡ rows
given_way_stay start now rows closed = stay (given_way start now) (λ r is. given_way_one start now r r.end is) rows closed

-- in front of others
pub released_behind : (tasks : TasksValue) (now : ℕ) (front last : List Interval) → AllByRecursion IsClosed front → flat_map (released tasks now) (front ++ last) ≡ front ++ flat_map (released tasks now) last
released_behind tasks now front last closed = flat_map-append (released tasks now) front last ∙ ap (λ l. l ++ flat_map (released tasks now) last) (released_stay tasks now front closed)

pub given_way_behind : (start now : ℕ) (front last : List Interval) → AllByRecursion IsClosed front → flat_map (given_way start now) (front ++ last) ≡ front ++ flat_map (given_way start now) last
given_way_behind start now front last closed = flat_map-append (given_way start now) front last ∙ ap (λ l. l ++ flat_map (given_way start now) last) (given_way_stay start now front closed)

-- ---- all have ended

closed_ended : (end : ℕ) (r : Interval) (rest : List Interval) → AllByRecursion IsClosed rest → (b : Bool) → AllByRecursion IsClosed (cond b ((record { start = r.start; end = Some end; tags = r.tags; annotation = r.annotation }) ∷ []) [] ++ rest)
closed_ended end r rest all true = (refl, all)
closed_ended end r rest all false = all

given_way_closed : (start now : ℕ) (r : Interval) (e : Option ℕ) (rest : List Interval) → r.end ≡ e → AllByRecursion IsClosed rest → AllByRecursion IsClosed (given_way_by start now r e ++ rest)
given_way_closed start now r None rest is all = closed_ended (cond (nat_lt r.start start) start now) r rest all (nat_lt r.start (cond (nat_lt r.start start) start now))
given_way_closed start now r (Some e) rest is all = (ap is_some is, all)

pub all_closed : (start now : ℕ) (rows : List Interval) → AllByRecursion IsClosed (flat_map (given_way start now) rows)
all_closed start now [] = tt
all_closed start now (r ∷ rows) = given_way_closed start now r r.end (flat_map (given_way start now) rows) refl (all_closed start now rows)
