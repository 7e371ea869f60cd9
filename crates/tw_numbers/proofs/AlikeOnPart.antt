-- A look at a part of the tasks finds what a look at all of them finds.
use Rattle.std.proofs.Common.{◌≡◌, ℕ, Bool, true, false, not, cond, ◌&&◌, ◌||◌, List, [], ◌∷◌, map, Some, None, refl, sym, ap, ◌∙◌}
use Rattle.std.specs.Prelude.{codes}
use Rattle.std.specs.Ordering.{eq_by_cmp}
use Rattle.std.specs.BTreeSet.{insert_key}
use Rattle.std.specs.FinMap.{get}
use Rattle.tw_model.specs.Maps.{bytes_cmp}
use Rattle.tw_model.specs.Ops.{TasksValue}
use Rattle.tw_model.specs.Places.{Places}
use Rattle.tw_numbers.specs.Numbering.{Rank, rank_cmp, second_at, is_open, is_placed, with_rank, with_ranks}
use Rattle.tw_numbers.specs.Assigned.{is_among, left_place, AgreeAmong}
use Rattle.tw_numbers.proofs.Ranks.{itself}

pub or_first : (a b : Bool) → a ≡ true → a || b ≡ true
or_first true b e = refl
or_first false b e = absurd cc

pub or_second : (a b : Bool) → b ≡ true → a || b ≡ true
or_second true b e = refl
or_second false b e = e

pub left_alike : (us : List (List ℕ)) (a b : TasksValue) (places : Places) → AgreeAmong us a b → map (left_place a us) places ≡ map (left_place b us) places
left_alike us a b [] agree = refl
left_alike us a b (None ∷ places) agree = ap (λ (l : Places). None ∷ l) (left_alike us a b places agree)
left_alike us a b (Some v ∷ places) agree = λ i. by (is_among us v) refl i ∷ left_alike us a b places agree i
  where
    by : (k : Bool) → is_among us v ≡ k → cond (k && not (is_open (get a v))) None (Some v) ≡ cond (k && not (is_open (get b v))) None (Some v)
    by true e = ap (λ o. cond (not (is_open o)) None (Some v)) (agree v e)
    by false e = refl

pub ranks_alike : (places : Places) (a b : TasksValue) (ranks : List Rank) (us : List (List ℕ)) → AgreeAmong us a b → with_ranks places a ranks us ≡ with_ranks places b ranks us
ranks_alike places a b ranks [] agree = refl
ranks_alike places a b ranks (v ∷ us) agree =
    ap (λ (rs : List Rank). with_ranks places a rs us) (one (agree v (or_first (eq_by_cmp bytes_cmp v v) (is_among us v) (itself v))))
    ∙ ranks_alike places a b (with_rank places b ranks v) us (λ u e. agree u (or_second (eq_by_cmp bytes_cmp u v) (is_among us u) e))
  where
    one : get a v ≡ get b v → with_rank places a ranks v ≡ with_rank places b ranks v
    one e = ap (λ o. cond (is_open o && not (is_placed places v)) (insert_key rank_cmp ranks (second_at (codes "entry") o, second_at (codes "due") o, v)) ranks) e
