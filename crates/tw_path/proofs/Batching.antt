-- Sums of lengths, and what is cut by them.
use Rattle.std.proofs.Common.{◌≡◌, ℕ, ◌+◌, ◌<◌, ◌≤◌, Bool, true, false, cond, List, [], ◌∷◌, ◌++◌, length, take, drop, get_or, refl, sym, ap, ◌∙◌, arith}
use Rattle.std.specs.Prelude.{nat_le}
use Rattle.std.proofs.lemmas.List.{append-nil, append_assoc}
use Rattle.std.proofs.lemmas.Bool.{eqb-true, leb-true, le-leb, true≢false}
use Rattle.json.specs.Print.{escape_byte}
use Rattle.tw_model.specs.declared.SyncOp.{SyncOp}
use Rattle.tw_segment.specs.Segment.{segment_text}
use Rattle.std.specs.Global.{Vec}
use Rattle.std.specs.Prelude.{nat_eq}
use Rattle.tw_groups.specs.Groups.{Groups, joined}
use Rattle.tw_groups.specs.Cut.{is_none_of, put_group, cut_ops, cut_group, cut_groups}
use Rattle.tw_groups.specs.Held.{groups_in}
use Rattle.tw_path.specs.Sums.{IsFirstPart}
use Rattle.tw_path.specs.Batch.{head_group, tail_groups, sent_by, left_by}
use Rattle.tw_path.specs.declared.batch.Batch.{Batch}
use Rattle.tw_path.specs.Path.{is_batch}
use Rattle.tw_path.specs.Lengths.{op_len, ops_len, max_sum}
use Rattle.std.specs.Prelude.{Result, Ok, Err, IfOk}
use Rattle.tw_path.proofs.Turns.{at_turn, take_turn}
use Rattle.tw_path.proofs.Lengths.{segment_length, batch_is_sum}

pub ops_len-append : (xs ys : List SyncOp) → ops_len (xs ++ ys) ≡ ops_len xs + ops_len ys
ops_len-append [] ys = omega arith
ops_len-append (x ∷ xs) ys = let e = ops_len-append xs ys in omega (arith, e)

pub sum_turn : (ops : List SyncOp) (at sum len from : ℕ) (op : SyncOp) → at < length ops → op ≡ get_or ops at op → len ≡ op_len op → sum + ops_len (drop at ops) ≡ from + ops_len ops → (sum + len) + ops_len (drop (at + 1) ops) ≡ from + ops_len ops
sum_turn ops at sum len from op inside is e h =
    let split = ap ops_len (at_turn ops at op inside is) in
    omega (arith, split, e, h)

le_false : (a b : ℕ) → b < a → nat_le a b ≡ false
le_false a b lt = by (nat_le a b) refl
  where
    by : (t : Bool) → nat_le a b ≡ t → t ≡ false
    by true e = let le = leb-true a b e in absurd (omega (arith, le, lt))
    by false e = refl

pub sum_passes : (ops : List SyncOp) (at sum len from : ℕ) (op : SyncOp) → at < length ops → op ≡ get_or ops at op → len ≡ op_len op → sum + ops_len (drop at ops) ≡ from + ops_len ops → max_sum < sum + len → nat_le (from + ops_len ops) max_sum ≡ false
sum_passes ops at sum len from op inside is e h over =
    let split = ap ops_len (at_turn ops at op inside is) in
    le_false (from + ops_len ops) max_sum (omega (arith, split, e, h, over))

-- ---- the operations of a group

pub part_turn : (g : List SyncOp) (at sum len : ℕ) (op : SyncOp) → at < length g → op ≡ get_or g at op → len ≡ op_len op → sum ≡ ops_len (take at g) → ops_len (take (at + 1) g) ≡ sum + len
part_turn g at sum len op inside is e h =
    let split = ap ops_len (take_turn g at op inside is) in
    let sums = ops_len-append (take at g) (op ∷ []) in
    omega (arith, split, sums, e, h)

is_so : (g : List SyncOp) (at : ℕ) (op : SyncOp) (b : Bool) → at < length g → op ≡ get_or g at op → is_batch (take (at + 1) g) ≡ b
    → cut_ops is_batch (take at g) (drop at g) ≡ cond b (cut_ops is_batch (take (at + 1) g) (drop (at + 1) g)) (take at g, drop at g)
is_so g at op b inside is e =
    let split = at_turn g at op inside is in
    let more = take_turn g at op inside is in
    ap (cut_ops is_batch (take at g)) split
    ∙ ap (λ t. cond (is_batch t) (cut_ops is_batch t (drop (at + 1) g)) (take at g, op ∷ drop (at + 1) g)) (sym more)
    ∙ ap (λ t. cond t (cut_ops is_batch (take (at + 1) g) (drop (at + 1) g)) (take at g, op ∷ drop (at + 1) g)) e
    ∙ ap (λ zs. cond b (cut_ops is_batch (take (at + 1) g) (drop (at + 1) g)) (take at g, zs)) (sym split)

pub part_goes_on : (g : List SyncOp) (at sum len : ℕ) (op : SyncOp) → at < length g → op ≡ get_or g at op → len ≡ op_len op → sum ≡ ops_len (take at g) → sum + len ≤ max_sum
    → cut_ops is_batch (take at g) (drop at g) ≡ cut_ops is_batch (take (at + 1) g) (drop (at + 1) g)
part_goes_on g at sum len op inside is e h le =
    let n = part_turn g at sum len op inside is e h in
    is_so g at op true inside is (batch_is_sum (take (at + 1) g) ∙ le-leb (ops_len (take (at + 1) g)) max_sum (omega (arith, n, le)))

pub part_ends : (g : List SyncOp) (at sum len : ℕ) (op : SyncOp) → at < length g → op ≡ get_or g at op → len ≡ op_len op → sum ≡ ops_len (take at g) → max_sum < sum + len → cut_ops is_batch (take at g) (drop at g) ≡ (take at g, drop at g)
part_ends g at sum len op inside is e h over =
    let n = part_turn g at sum len op inside is e h in
    is_so g at op false inside is (batch_is_sum (take (at + 1) g) ∙ le_false (ops_len (take (at + 1) g)) max_sum (omega (arith, n, over)))

pub part_all : (g : List SyncOp) (at : ℕ) → drop at g ≡ [] → cut_ops is_batch (take at g) (drop at g) ≡ (take at g, drop at g)
part_all g at none = ap (cut_ops is_batch (take at g)) none ∙ ap (λ zs. (take at g, zs)) (sym none)

pub first_len : (g : List SyncOp) (op : SyncOp) → 0 < length g → op ≡ get_or g 0 op → ops_len (take 1 g) ≡ op_len op
first_len g op inside is = let n = part_turn g 0 0 (op_len op) op inside is refl refl in omega (arith, n)

-- ---- groups

pub in-append : (xs ys : List (Vec SyncOp)) → groups_in (xs ++ ys) ≡ groups_in xs ++ groups_in ys
in-append [] ys = refl
in-append (x ∷ xs) ys = ap (λ zs. x.items ∷ zs) (in-append xs ys)

joined-push : (gs : Groups) (g : List SyncOp) → joined (gs ++ g ∷ []) ≡ joined gs ++ g
joined-push [] g = append-nil g
joined-push (x ∷ gs) g = ap (λ zs. x ++ zs) (joined-push gs g) ∙ sym (append_assoc x (joined gs) g)

-- the operations of the groups before a place
abbrev pub before : List (Vec SyncOp) → ℕ → List SyncOp
before vs at = joined (groups_in (take at vs))

pub before_turn : (vs : List (Vec SyncOp)) (at : ℕ) (v : Vec SyncOp) → at < length vs → v ≡ get_or vs at v → before vs (at + 1) ≡ before vs at ++ v.items
before_turn vs at v inside is =
    ap (λ ws. joined (groups_in ws)) (take_turn vs at v inside is) ∙ ap joined (in-append (take at vs) (v ∷ [])) ∙ joined-push (groups_in (take at vs)) v.items

pub behind_turn : (vs : List (Vec SyncOp)) (at : ℕ) (v : Vec SyncOp) → at < length vs → v ≡ get_or vs at v → groups_in (drop at vs) ≡ v.items ∷ groups_in (drop (at + 1) vs)
behind_turn vs at v inside is = ap groups_in (at_turn vs at v inside is)

pub group_sum : (vs : List (Vec SyncOp)) (at sum next : ℕ) (v : Vec SyncOp) → at < length vs → v ≡ get_or vs at v → sum ≡ ops_len (before vs at) → next ≡ sum + ops_len v.items → next ≡ ops_len (before vs (at + 1))
group_sum vs at sum next v inside is h e =
    let split = ap ops_len (before_turn vs at v inside is) in
    let sums = ops_len-append (before vs at) v.items in
    omega (arith, split, sums, h, e)

fits_batch : (xs ys : List SyncOp) (sum : ℕ) (b : Bool) → sum ≡ ops_len xs → nat_le (sum + ops_len ys) max_sum ≡ b → is_batch (xs ++ ys) ≡ b
fits_batch xs ys sum b h e = batch_is_sum (xs ++ ys) ∙ ap (λ n. nat_le n max_sum) (ops_len-append xs ys ∙ ap (λ n. n + ops_len ys) (sym h)) ∙ e

pub group_goes_on : (vs : List (Vec SyncOp)) (at sum next : ℕ) (v : Vec SyncOp) → at < length vs → v ≡ get_or vs at v → sum ≡ ops_len (before vs at) → next ≡ sum + ops_len v.items → next ≤ max_sum
    → cut_groups is_batch (before vs at) (groups_in (drop at vs)) ≡ cut_groups is_batch (before vs (at + 1)) (groups_in (drop (at + 1) vs))
group_goes_on vs at sum next v inside is h e le =
    let t : List SyncOp = before vs at in
    let gs : Groups = groups_in (drop (at + 1) vs) in
    let fit : is_batch (t ++ v.items) ≡ true = fits_batch t v.items sum true h (ap (λ n. nat_le n max_sum) (sym e) ∙ le-leb next max_sum le) in
    ap (cut_groups is_batch t) (behind_turn vs at v inside is)
    ∙ ap (λ b. cond b (cut_groups is_batch (t ++ v.items) gs) (cond (is_none_of t) (cut_group is_batch v.items gs) (t, v.items ∷ gs))) fit
    ∙ ap (λ zs. cut_groups is_batch zs gs) (sym (before_turn vs at v inside is))

no_ops : (xs : List SyncOp) → ops_len xs ≡ 0 → xs ≡ []
no_ops [] e = refl
no_ops (x ∷ xs) e = absurd (omega (arith, e))

some_ops : (xs : List SyncOp) → ¬ (ops_len xs ≡ 0) → is_none_of xs ≡ false
some_ops [] e = absurd (e refl)
some_ops (x ∷ xs) e = refl

pub group_some : (g : List SyncOp) (sum : ℕ) → sum ≤ max_sum → nat_le (sum + ops_len g) max_sum ≡ false → 1 ≤ length g
group_some [] sum le long = absurd (true≢false (sym (le-leb (sum + 0) max_sum (omega (arith, le))) ∙ long))
group_some (x ∷ g) sum le long = omega arith

nothing_of : (k : ℕ) → 1 ≤ k → nat_eq k 0 ≡ false
nothing_of k le = by (nat_eq k 0) refl
  where
    by : (b : Bool) → nat_eq k 0 ≡ b → b ≡ false
    by true e = let z = eqb-true k 0 e in absurd (omega (arith, le, z))
    by false e = refl

cut_first : (g : List SyncOp) (k : ℕ) (gs : Groups) → 1 ≤ length g → IsFirstPart g k → cut_group is_batch g gs ≡ (take k g, put_group (drop k g) gs)
cut_first [] k gs some p = absurd (omega (arith, some))
cut_first (op ∷ ops) k gs some p = ap (λ (parts : List SyncOp × List SyncOp). (parts.0, put_group parts.1 gs)) p.split

module _ (vs : List (Vec SyncOp)) (at sum : ℕ) (v : Vec SyncOp) (inside : at < length vs) (is : v ≡ get_or vs at v) (h : sum ≡ ops_len (before vs at)) (short : sum ≤ max_sum) (long : nat_le (sum + ops_len v.items) max_sum ≡ false) where
  stops : cut_groups is_batch (before vs at) (groups_in (drop at vs)) ≡ cond (is_none_of (before vs at)) (cut_group is_batch v.items (groups_in (drop (at + 1) vs))) (before vs at, v.items ∷ groups_in (drop (at + 1) vs))
  stops =
      ap (cut_groups is_batch (before vs at)) (behind_turn vs at v inside is)
      ∙ ap (λ b. cond b (cut_groups is_batch (before vs at ++ v.items) (groups_in (drop (at + 1) vs))) (cond (is_none_of (before vs at)) (cut_group is_batch v.items (groups_in (drop (at + 1) vs))) (before vs at, v.items ∷ groups_in (drop (at + 1) vs))))
      (fits_batch (before vs at) v.items sum false h long)

  whole_groups : (b : Batch) → b.whole ≡ at → b.part ≡ 0 → ¬ (sum ≡ 0) → cut_groups is_batch (before vs at) (groups_in (drop at vs)) ≡ (sent_by b vs, left_by b vs)
  whole_groups b whole part some =
      stops
      ∙ ap (λ c. cond c (cut_group is_batch v.items (groups_in (drop (at + 1) vs))) (before vs at, v.items ∷ groups_in (drop (at + 1) vs))) (some_ops (before vs at) (λ e. some (h ∙ e)))
      ∙ ap (λ zs. (before vs at, zs)) (sym (behind_turn vs at v inside is))
      ∙ ap (λ zs. (zs, groups_in (drop at vs))) (sym (append-nil (before vs at)))
      ∙ (λ i. (before vs (sym whole i) ++ take (sym part i) (head_group (groups_in (drop (sym whole i) vs))), cond (nat_eq (sym part i) 0) (groups_in (drop (sym whole i) vs)) (put_group (drop (sym part i) (head_group (groups_in (drop (sym whole i) vs)))) (tail_groups (groups_in (drop (sym whole i) vs))))))

  part_of_group : (b : Batch) → b.whole ≡ at → IsFirstPart v.items b.part → sum ≡ 0 → cut_groups is_batch (before vs at) (groups_in (drop at vs)) ≡ (sent_by b vs, left_by b vs)
  part_of_group b whole part none =
      let empty : before vs at ≡ [] = no_ops (before vs at) (sym h ∙ none) in
      let split = behind_turn vs at v inside is in
      stops
      ∙ ap (λ zs. cond (is_none_of zs) (cut_group is_batch v.items (groups_in (drop (at + 1) vs))) (zs, v.items ∷ groups_in (drop (at + 1) vs))) empty
      ∙ cut_first v.items b.part (groups_in (drop (at + 1) vs)) (group_some v.items sum short long) part
      ∙ (λ i. (sym empty i ++ take b.part v.items, cond (sym (nothing_of b.part part.some) i) (groups_in (drop at vs)) (put_group (drop b.part v.items) (groups_in (drop (at + 1) vs)))))
      ∙ (λ i. (before vs at ++ take b.part (head_group (sym split i)), cond (nat_eq b.part 0) (groups_in (drop at vs)) (put_group (drop b.part (head_group (sym split i))) (tail_groups (sym split i)))))
      ∙ (λ i. (before vs (sym whole i) ++ take b.part (head_group (groups_in (drop (sym whole i) vs))), cond (nat_eq b.part 0) (groups_in (drop (sym whole i) vs)) (put_group (drop b.part (head_group (groups_in (drop (sym whole i) vs)))) (tail_groups (groups_in (drop (sym whole i) vs))))))

  pub group_stops : (b : Batch) → b.whole ≡ at → (¬ (sum ≡ 0) → b.part ≡ 0) → (sum ≡ 0 → IsFirstPart v.items b.part) → cut_groups is_batch (before vs at) (groups_in (drop at vs)) ≡ (sent_by b vs, left_by b vs)
  group_stops b whole none part = by (nat_eq sum 0) refl
    where
      by : (c : Bool) → nat_eq sum 0 ≡ c → cut_groups is_batch (before vs at) (groups_in (drop at vs)) ≡ (sent_by b vs, left_by b vs)
      by true e = let z = eqb-true sum 0 e in part_of_group b whole (part z) z
      by false e = let z : ¬ (sum ≡ 0) = λ zero. true≢false (sym (ap (λ n. nat_eq n 0) zero) ∙ e) in whole_groups b whole (none z) z

pub groups_all : (vs : List (Vec SyncOp)) (at : ℕ) → drop at vs ≡ [] → cut_groups is_batch (before vs at) (groups_in (drop at vs)) ≡ (before vs at ++ [], groups_in (drop at vs))
groups_all vs at none =
    ap (λ ws. cut_groups is_batch (before vs at) (groups_in ws)) none ∙ (λ i. (sym (append-nil (before vs at)) i, groups_in (sym none i)))

-- ---- the length of one operation

empty_len : length (segment_text []) ≡ 17
unfolding escape_byte
empty_len = refl

pub one_len : (op : SyncOp) (n : ℕ) → n ≡ length (segment_text (op ∷ [])) → n ≡ 16 + op_len op
one_len op n e =
    let a = segment_length op [] in
    let b = empty_len in
    omega (arith, a, b, e)

-- three facts on what is answered
pub if_ok_three : {A E : Type 0} (r : Result A E) (P Q R S : A → Type 0) → ((a : A) → P a → Q a → R a → S a) → IfOk r P → IfOk r Q → IfOk r R → IfOk r S
if_ok_three (Ok a) P Q R S f p q s = f a p q s
if_ok_three (Err e) P Q R S f p q s = p
