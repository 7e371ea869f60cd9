-- How many operations are left, and which of a list those that are left come from.
use Rattle.std.proofs.Common.{◌≡◌, ◌+◌, ◌≤◌, Bool, true, false, cond, List, [], ◌∷◌, ◌++◌, length, refl, sym, ap, ◌∙◌, arith, length-append}
use Rattle.tw_model.specs.Ops.{fit_part}
use Rattle.tw_model.specs.declared.SyncOp.{SyncOp}
use Rattle.tw_transform.specs.Grid.{put_if, carry, grid}
use Rattle.tw_transform.specs.Table.{table}
use Rattle.tw_groups.specs.Groups.{joined}
use Rattle.tw_groups.specs.Cut.{first, rest}
use Rattle.tw_groups.proofs.Grouping.{cross_is_grid}
use Rattle.tw_groups.proofs.Cutting.{cut_splits}
use Rattle.tw_path.specs.Path.{Reached, Leg, passed, come, MayPass, is_batch, sent_on}
use Rattle.tw_path.specs.Path.Leg.{Pull, Push}
use Rattle.tw_path.specs.PathLaws.{PathCounts, CutPullsBack, IsPartedBy}

-- ---- counts

put_if_len : (b : Bool) (op : SyncOp) (ops : List SyncOp) → length (put_if b op ops) ≤ 1 + length ops
put_if_len true op ops = omega arith
put_if_len false op ops = omega arith

carry_len : (s : SyncOp) (ls : List SyncOp) → length (carry s ls).1 ≤ length ls
carry_len s [] = omega arith
carry_len s (l ∷ ls) = by (table s l).server (carry_len s ls)
  where
    by : (b : Bool) → length (carry s ls).1 ≤ length ls → length (put_if (table s l).local l (cond b (carry s ls) (false, ls)).1) ≤ length (l ∷ ls)
    by true le = let h = put_if_len (table s l).local l (carry s ls).1 in omega (arith, le, h)
    by false le = let h = put_if_len (table s l).local l ls in omega (arith, h)

pub grid_len : (ss ls : List SyncOp) → length (grid ss ls).1 ≤ length ls
grid_len [] ls = omega arith
grid_len (s ∷ ss) ls = let a = grid_len ss (carry s ls).1 in let b = carry_len s ls in omega (arith, a, b)

leg_counts : (r : Reached) (leg : Leg) → MayPass r leg → sent_on leg + length (joined (passed r leg).left) ≤ length (joined r.left)
leg_counts r (Pull v ops) p =
    let a = ap length (cross_is_grid (fit_part r.tasks ops) r.left).1 in
    let b = grid_len (fit_part r.tasks ops) (joined r.left) in
    omega (arith, a, b)
leg_counts r (Push v ops) p =
    let a = ap length (cut_splits is_batch r.left) in
    let b = length-append (first is_batch r.left) (joined (rest is_batch r.left)) in
    let c = ap length p.sent in
    omega (arith, a, b, c)

pub path_counts : PathCounts
path_counts r [] p = omega arith
path_counts r (leg ∷ legs) p =
    let a = leg_counts r leg p.0 in
    let b = path_counts (passed r leg) legs p.1 in
    omega (arith, a, b)

-- ---- what it is left of

none_left : (xs ys : List SyncOp) → [] ≡ xs ++ ys → (xs ≡ []) × (ys ≡ [])
none_left [] ys e = (refl, sym e)
none_left (x ∷ xs) ys e = absurd cc

first_same : (a b : SyncOp) (xs ys : List SyncOp) → a ∷ xs ≡ b ∷ ys → a ≡ b
first_same a b xs ys e = cc

others_same : (a b : SyncOp) (xs ys : List SyncOp) → a ∷ xs ≡ b ∷ ys → xs ≡ ys
others_same a b xs ys e = cc

-- what is carried across a list, by a part of it and then by the other
pub record IsCarriedBy (s : SyncOp) (ls xs ys : List SyncOp) : Type 0 where
  pub one : List SyncOp
  pub two : List SyncOp
  pub split : ls ≡ one ++ two
  pub is_one : (carry s one).1 ≡ xs
  pub is_two : (cond (carry s one).0 (carry s two) (false, two)).1 ≡ ys

carry_parts : (s : SyncOp) (ls xs ys : List SyncOp) → (carry s ls).1 ≡ xs ++ ys → IsCarriedBy s ls xs ys
carry_parts s ls [] ys e = record { one = []; two = ls; split = refl; is_one = refl; is_two = e }
carry_parts s [] (x ∷ xs) ys e = absurd cc
carry_parts s (l ∷ ls) (x ∷ xs) ys e = by (table s l).server (table s l).local refl refl e (λ zs f. carry_parts s ls zs ys f)
  where
    step : (one : List SyncOp) (b c : Bool) (zs : List SyncOp) → (table s l).server ≡ b → (table s l).local ≡ c → put_if c l (cond b (carry s one) (false, one)).1 ≡ zs → (carry s (l ∷ one)).1 ≡ zs
    step one b c zs e f g = ap (λ t. put_if t l (cond (table s l).server (carry s one) (false, one)).1) f ∙ ap (λ t. put_if c l (cond t (carry s one) (false, one)).1) e ∙ g

    goes : (one : List SyncOp) (b : Bool) → (table s l).server ≡ b → (carry s (l ∷ one)).0 ≡ (cond b (carry s one) (false, one)).0
    goes one b e = ap (λ t. (cond t (carry s one) (false, one)).0) e

    by : (b c : Bool) → (table s l).server ≡ b → (table s l).local ≡ c → put_if c l (cond b (carry s ls) (false, ls)).1 ≡ (x ∷ xs) ++ ys
        → ((zs : List SyncOp) → (carry s ls).1 ≡ zs ++ ys → IsCarriedBy s ls zs ys) → IsCarriedBy s (l ∷ ls) (x ∷ xs) ys
    by true true t u f more =
        let it : IsCarriedBy s ls xs ys = more xs (others_same l x (carry s ls).1 (xs ++ ys) f) in
        record {
          one = l ∷ it.one;
          two = it.two;
          split = ap (λ zs. l ∷ zs) it.split;
          is_one = step it.one true true (x ∷ xs) t u (λ i. first_same l x (carry s ls).1 (xs ++ ys) f i ∷ it.is_one i);
          is_two = ap (λ k. (cond k (carry s it.two) (false, it.two)).1) (goes it.one true t) ∙ it.is_two;
        }
    by true false t u f more =
        let it : IsCarriedBy s ls (x ∷ xs) ys = more (x ∷ xs) f in
        record {
          one = l ∷ it.one;
          two = it.two;
          split = ap (λ zs. l ∷ zs) it.split;
          is_one = step it.one true false (x ∷ xs) t u it.is_one;
          is_two = ap (λ k. (cond k (carry s it.two) (false, it.two)).1) (goes it.one true t) ∙ it.is_two;
        }
    by false true t u f more = record {
      one = l ∷ xs;
      two = ys;
      split = ap (λ zs. l ∷ zs) (others_same l x ls (xs ++ ys) f);
      is_one = step xs false true (x ∷ xs) t u (ap (λ z. z ∷ xs) (first_same l x ls (xs ++ ys) f));
      is_two = ap (λ k. (cond k (carry s ys) (false, ys)).1) (goes xs false t);
    }
    by false false t u f more = record {
      one = l ∷ (x ∷ xs);
      two = ys;
      split = ap (λ zs. l ∷ zs) f;
      is_one = step (x ∷ xs) false false (x ∷ xs) t u refl;
      is_two = ap (λ k. (cond k (carry s ys) (false, ys)).1) (goes (x ∷ xs) false t);
    }

-- what one operation more does to the second part
on_two : (s : SyncOp) (ss two mid ys : List SyncOp) (k : Bool) → (cond k (carry s two) (false, two)).1 ≡ mid → (grid ss mid).1 ≡ ys → (grid (put_if k s ss) two).1 ≡ ys
on_two s ss two mid ys true e f = ap (λ zs. (grid ss zs).1) e ∙ f
on_two s ss two mid ys false e f = ap (λ zs. (grid ss zs).1) e ∙ f

pub cut_pulls_back : CutPullsBack
cut_pulls_back [] ls xs ys e = record { one = xs; two = ys; split = e; is_one = refl; is_two = refl }
cut_pulls_back (s ∷ ss) ls xs ys e =
    let it : IsPartedBy ss (carry s ls).1 xs ys = cut_pulls_back ss (carry s ls).1 xs ys e in
    let back : IsCarriedBy s ls it.one it.two = carry_parts s ls it.one it.two it.split in
    record {
      one = back.one;
      two = back.two;
      split = back.split;
      is_one = ap (λ zs. (grid ss zs).1) back.is_one ∙ it.is_one;
      is_two = on_two s (grid ss (carry s back.one).1).0 back.two it.two ys (carry s back.one).0 back.is_two (ap (λ zs. (grid (grid ss zs).0 it.two).1) back.is_one ∙ it.is_two);
    }
