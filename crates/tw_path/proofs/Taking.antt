-- A batch is copied, and let go.
use Rattle.std.proofs.Common.{◌≡◌, ℕ, ◌+◌, ◌<◌, ◌≤◌, Bool, true, false, cond, List, [], ◌∷◌, ◌++◌, length, take, drop, get_or, refl, sym, ap, ◌∙◌, arith}
use Rattle.std.specs.Prelude.{nat_eq, min}
use Rattle.std.proofs.lemmas.List.{append-nil, append_assoc, length-drop, take_all, take_min, take-append-le, drop_all, drop_min}
use Rattle.std.specs.Global.{Vec}
use Rattle.tw_model.specs.declared.SyncOp.{SyncOp}
use Rattle.tw_groups.specs.Groups.{Groups, joined}
use Rattle.tw_groups.specs.Cut.{put_group}
use Rattle.tw_groups.specs.Held.{groups_in}
use Rattle.tw_path.specs.Batch.{head_group, tail_groups, cut_front}
use Rattle.tw_path.proofs.Turns.{take_turn}
use Rattle.tw_path.proofs.Batching.{before, before_turn, behind_turn}

-- ---- copying

pub put_turn : (ops now old : List SyncOp) (group : List SyncOp) (at : ℕ) (op : SyncOp) → at < length group → op ≡ get_or group at op → now ≡ ops ++ op ∷ [] → ops ≡ old ++ take at group → now ≡ old ++ take (at + 1) group
put_turn ops now old group at op inside is e h =
    e ∙ ap (λ zs. zs ++ op ∷ []) h ∙ append_assoc old (take at group) (op ∷ []) ∙ ap (λ zs. old ++ zs) (sym (take_turn group at op inside is))

-- as many as are asked for, or all
pub put_all : (ops old group : List SyncOp) (at end count : ℕ) → end ≤ at → at ≤ end → end ≡ min count (length group) → ops ≡ old ++ take at group → ops ≡ old ++ take count group
put_all ops old group at end count stop le few h =
    let e : at ≡ end = omega (arith, stop, le) in
    h ∙ ap (λ n. old ++ take n group) (e ∙ few) ∙ ap (λ zs. old ++ zs) (take_min count group)

-- one whole group more
pub group_put : (vs : List (Vec SyncOp)) (at : ℕ) (v : Vec SyncOp) (ops now : List SyncOp) (count : ℕ) → at < length vs → v ≡ get_or vs at v → count ≡ length v.items → now ≡ ops ++ take count v.items → ops ≡ before vs at
    → now ≡ before vs (at + 1)
group_put vs at v ops now count inside is len e h =
    e ∙ ap (λ n. ops ++ take n v.items) len ∙ ap (λ zs. ops ++ zs) (take_all (length v.items) v.items (omega arith)) ∙ ap (λ zs. zs ++ v.items) h ∙ sym (before_turn vs at v inside is)

whole_is : (vs : List (Vec SyncOp)) (at end whole : ℕ) → end ≤ at → at ≤ end → end ≡ min whole (length vs) → before vs at ≡ before vs whole
whole_is vs at end whole stop le few =
    let e : at ≡ end = omega (arith, stop, le) in
    ap (before vs) (e ∙ few) ∙ ap (λ ws. joined (groups_in ws)) (take_min whole vs)

-- the first of the group after them
pub part_put : (vs : List (Vec SyncOp)) (at end whole part : ℕ) (v : Vec SyncOp) (ops now : List SyncOp) → end ≤ at → at ≤ end → end ≡ min whole (length vs) → ops ≡ before vs at
    → whole < length vs → v ≡ get_or vs whole v → now ≡ ops ++ take part v.items → now ≡ before vs whole ++ take part (head_group (groups_in (drop whole vs)))
part_put vs at end whole part v ops now stop le few h inside is e =
    e ∙ ap (λ zs. zs ++ take part v.items) (h ∙ whole_is vs at end whole stop le few) ∙ ap (λ gs. before vs whole ++ take part (head_group gs)) (sym (behind_turn vs whole v inside is))

take_none : (n : ℕ) → take {A = SyncOp} n [] ≡ []
take_none n = take_all n [] (omega arith)

-- there is none
pub no_part : (vs : List (Vec SyncOp)) (at end whole part : ℕ) (ops : List SyncOp) → end ≤ at → at ≤ end → end ≡ min whole (length vs) → ops ≡ before vs at → length vs ≤ whole
    → ops ≡ before vs whole ++ take part (head_group (groups_in (drop whole vs)))
no_part vs at end whole part ops stop le few h none =
    h ∙ whole_is vs at end whole stop le few
    ∙ sym (append-nil (before vs whole))
    ∙ ap (λ zs. before vs whole ++ zs) (sym (ap (λ ws. take part (head_group (groups_in ws))) (drop_all whole vs none) ∙ take_none part))

-- ---- letting go

pub no_front : (part : ℕ) (gs : Groups) → nat_eq part 0 ≡ true → gs ≡ cut_front part gs
no_front part gs e = ap (λ b. cond b gs (put_group (drop part (head_group gs)) (tail_groups gs))) (sym e)

drop_none : (n : ℕ) → drop {A = SyncOp} n [] ≡ []
drop_none n = drop_all n [] (omega arith)

no_vecs : (vs : List (Vec SyncOp)) → length vs ≡ 0 → vs ≡ []
no_vecs [] e = refl
no_vecs (v ∷ vs) e = absurd (omega (arith, e))

-- there is no group
pub no_groups : (part : ℕ) (vs : List (Vec SyncOp)) → length vs ≡ 0 → groups_in vs ≡ cut_front part (groups_in vs)
no_groups part vs e = ap groups_in (no_vecs vs e) ∙ by (nat_eq part 0) ∙ ap (λ ws. cut_front part (groups_in ws)) (sym (no_vecs vs e))
  where
    by : (b : Bool) → [] ≡ cond b [] (put_group (drop part []) [])
    by true = refl
    by false = ap (λ ops. put_group ops []) (sym (drop_none part))

some_front : (part : ℕ) (gs : Groups) → nat_eq part 0 ≡ false → put_group (drop part (head_group gs)) (tail_groups gs) ≡ cut_front part gs
some_front part gs e = ap (λ b. cond b gs (put_group (drop part (head_group gs)) (tail_groups gs))) (sym e)

none_of : (ops : List SyncOp) → length ops ≡ 0 → ops ≡ []
none_of [] e = refl
none_of (op ∷ ops) e = absurd (omega (arith, e))

some_of : (ops : List SyncOp) (gs : Groups) → ¬ (length ops ≡ 0) → put_group ops gs ≡ ops ∷ gs
some_of [] gs e = absurd (e refl)
some_of (op ∷ ops) gs e = refl

module _ (part : ℕ) (vs now : List (Vec SyncOp)) (v others : Vec SyncOp) (count : ℕ) (some : nat_eq part 0 ≡ false) (inside : 0 < length vs) (is : v ≡ get_or vs 0 v) (now_is : now ≡ others ∷ drop 1 vs)
    (few : count ≡ min part (length v.items)) (rest : others.items ≡ drop count v.items) where
  rest_is : others.items ≡ drop part v.items
  rest_is = rest ∙ ap (λ n. drop n v.items) few ∙ drop_min part v.items

  put : put_group others.items (groups_in (drop 1 vs)) ≡ cut_front part (groups_in vs)
  put =
      ap (λ ops. put_group ops (groups_in (drop 1 vs))) rest_is
      ∙ ap (λ gs. put_group (drop part (head_group gs)) (tail_groups gs)) (sym (behind_turn vs 0 v inside is))
      ∙ some_front part (groups_in vs) some

  -- all of it is let go
  pub front_gone : length others.items ≡ 0 → (new : List (Vec SyncOp)) → new ≡ drop 1 now → groups_in new ≡ cut_front part (groups_in vs)
  front_gone e new made =
      ap groups_in (made ∙ ap (drop 1) now_is) ∙ ap (λ ops. put_group ops (groups_in (drop 1 vs))) (sym (none_of others.items e)) ∙ put

  -- a part of it
  pub front_left : ¬ (length others.items ≡ 0) → groups_in now ≡ cut_front part (groups_in vs)
  front_left e = ap groups_in now_is ∙ sym (some_of others.items (groups_in (drop 1 vs)) e) ∙ put

-- the first of a list are turned to its end, and cut off
pub first_gone : {A : Type 0} (xs : List A) (count n : ℕ) → count ≤ length xs → n + count ≡ length xs → take n (drop count xs ++ take count xs) ≡ drop count xs
first_gone xs count n le e =
    let len = length-drop count xs in
    take-append-le n (drop count xs) (take count xs) (omega (arith, len, e)) ∙ take_all n (drop count xs) (omega (arith, len, e))
