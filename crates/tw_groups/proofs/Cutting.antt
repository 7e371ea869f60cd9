-- What is sent first of groups.
use Rattle.std.proofs.Common.{◌≡◌, ◌⊎◌, inl, inr, Bool, true, false, cond, List, [], ◌∷◌, ◌++◌, refl, sym, ap, subst, ◌∙◌}
use Rattle.std.proofs.lemmas.List.{append-nil, append_assoc}
use Rattle.std.proofs.lemmas.Bool.{true≢false}
use Rattle.tw_model.specs.declared.SyncOp.{SyncOp}
use Rattle.tw_groups.specs.Groups.{Groups, joined}
use Rattle.tw_groups.specs.Cut.{is_none_of, put_group, cut_ops, cut_group, cut_groups, cut, first, rest, IsLimit, IsRowOfGroups, IsPartOfGroup, IsFirst}
use Rattle.tw_groups.specs.Laws.{CutSplits, CutIsFirst, CutOfAll}

joined_group : (ops : List SyncOp) (gs : Groups) → joined (put_group ops gs) ≡ ops ++ joined gs
joined_group [] gs = refl
joined_group (op ∷ ops) gs = refl

joined-append : (xs ys : Groups) → joined (xs ++ ys) ≡ joined xs ++ joined ys
joined-append [] ys = refl
joined-append (g ∷ xs) ys = ap (λ zs. g ++ zs) (joined-append xs ys) ∙ sym (append_assoc g (joined xs) (joined ys))

module _ (within : List SyncOp → Bool) where
  -- ---- operations

  ops_split : (taken ops : List SyncOp) → taken ++ ops ≡ (cut_ops within taken ops).0 ++ (cut_ops within taken ops).1
  ops_split taken [] = refl
  ops_split taken (op ∷ ops) =
      elim (within (taken ++ op ∷ [])) as (λ b. taken ++ op ∷ ops ≡ (cond b (cut_ops within (taken ++ op ∷ []) ops) (taken, op ∷ ops)).0 ++ (cond b (cut_ops within (taken ++ op ∷ []) ops) (taken, op ∷ ops)).1) [
        | true ↦ sym (append_assoc taken (op ∷ []) ops) ∙ ops_split (taken ++ op ∷ []) ops
        | false ↦ refl
      ]

  group_split : (g : List SyncOp) (gs : Groups) → g ++ joined gs ≡ (cut_group within g gs).0 ++ joined (cut_group within g gs).1
  group_split [] gs = refl
  group_split (op ∷ ops) gs =
      let parts = cut_ops within (op ∷ []) ops in
      ap (λ zs. zs ++ joined gs) (ops_split (op ∷ []) ops) ∙ append_assoc parts.0 parts.1 (joined gs) ∙ ap (λ zs. parts.0 ++ zs) (sym (joined_group parts.1 gs))

  groups_split : (taken : List SyncOp) (gs : Groups) → taken ++ joined gs ≡ (cut_groups within taken gs).0 ++ joined (cut_groups within taken gs).1
  groups_split taken [] = refl
  groups_split taken (g ∷ gs) = by (within (taken ++ g)) (is_none_of taken) refl (groups_split (taken ++ g) gs)
    where
      none : (xs : List SyncOp) → is_none_of xs ≡ true → xs ≡ []
      none [] e = refl
      none (x ∷ xs) e = cc

      by : (b c : Bool) → is_none_of taken ≡ c → (taken ++ g) ++ joined gs ≡ (cut_groups within (taken ++ g) gs).0 ++ joined (cut_groups within (taken ++ g) gs).1
          → taken ++ (g ++ joined gs) ≡ (cond b (cut_groups within (taken ++ g) gs) (cond c (cut_group within g gs) (taken, g ∷ gs))).0 ++ joined (cond b (cut_groups within (taken ++ g) gs) (cond c (cut_group within g gs) (taken, g ∷ gs))).1
      by true c e more = sym (append_assoc taken g (joined gs)) ∙ more
      by false true e more = ap (λ zs. zs ++ (g ++ joined gs)) (none taken e) ∙ group_split g gs
      by false false e more = refl

pub cut_splits : CutSplits
cut_splits within gs = groups_split within [] gs

-- ---- the longest

nothing_joins : (xs ys : List SyncOp) → ¬ (xs ≡ []) → ¬ (xs ++ ys ≡ [])
nothing_joins [] ys some e = some refl
nothing_joins (x ∷ xs) ys some e = cc

module _ (within : List SyncOp → Bool) (limit : IsLimit within) where
  -- what is taken of operations
  pub record IsTaken (ops sent others : List SyncOp) : Type 0 where
    pub parts : ops ≡ sent ++ others
    pub some : ¬ (sent ≡ [])
    pub short : (within sent ≡ true) ⊎ ((op : SyncOp) × (sent ≡ op ∷ []))
    pub longest : (op : SyncOp) (more : List SyncOp) → others ≡ op ∷ more → within (sent ++ op ∷ []) ≡ false

  same_next : (op other : SyncOp) (ops more : List SyncOp) → op ∷ ops ≡ other ∷ more → op ≡ other
  same_next op other ops more e = cc

  ops_taken : (taken ops : List SyncOp) → ¬ (taken ≡ []) → (within taken ≡ true) ⊎ ((op : SyncOp) × (taken ≡ op ∷ [])) → IsTaken (taken ++ ops) (cut_ops within taken ops).0 (cut_ops within taken ops).1
  ops_taken taken [] some short = record { parts = refl; some = some; short = short; longest = λ op more e. absurd cc }
  ops_taken taken (op ∷ ops) some short = by (within (taken ++ op ∷ [])) refl (λ e. ops_taken (taken ++ op ∷ []) ops (nothing_joins taken (op ∷ []) some) (inl e))
    where
      by : (b : Bool) → within (taken ++ op ∷ []) ≡ b
          → (within (taken ++ op ∷ []) ≡ true → IsTaken ((taken ++ op ∷ []) ++ ops) (cut_ops within (taken ++ op ∷ []) ops).0 (cut_ops within (taken ++ op ∷ []) ops).1)
          → IsTaken (taken ++ op ∷ ops) (cond b (cut_ops within (taken ++ op ∷ []) ops) (taken, op ∷ ops)).0 (cond b (cut_ops within (taken ++ op ∷ []) ops) (taken, op ∷ ops)).1
      by true e more = subst (λ zs. IsTaken zs (cut_ops within (taken ++ op ∷ []) ops).0 (cut_ops within (taken ++ op ∷ []) ops).1) (append_assoc taken (op ∷ []) ops) (more e)
      by false e more = record { parts = refl; some = some; short = short; longest = λ other more f. subst (λ z. within (taken ++ z ∷ []) ≡ false) (same_next op other ops more f) e }

  -- a group that is too long alone, after groups that hold nothing
  group_first : (none : Groups) (g : List SyncOp) (more : Groups) → joined none ≡ [] → within g ≡ false → IsFirst within (none ++ g ∷ more) (cut_group within g more).0 (cut_group within g more).1
  group_first none [] more empty long = absurd (true≢false (sym limit.none ∙ long))
  group_first none (op ∷ ops) more empty long =
      let parts = cut_ops within (op ∷ []) ops in
      let is : IsTaken (op ∷ ops) parts.0 parts.1 = ops_taken (op ∷ []) ops (λ e. cc) (inr (op, refl)) in
      record {
        some = is.some;
        whole = joined-append none ((op ∷ ops) ∷ more) ∙ ap (λ zs. zs ++ ((op ∷ ops) ++ joined more)) empty ∙ group_split within (op ∷ ops) more;
        way = inr (record { none = none; g = op ∷ ops; more = more; split = refl; empty = empty; long = long; others = parts.1; parts = is.parts; is_left = refl; short = is.short; longest = is.longest });
      }

  same_group : (g other : List SyncOp) (gs more : Groups) → g ∷ gs ≡ other ∷ more → g ≡ other
  same_group g other gs more e = cc

  some_of : (xs : List SyncOp) → is_none_of xs ≡ false → ¬ (xs ≡ [])
  some_of [] e = cc
  some_of (x ∷ xs) e = λ f. cc

  none_of : (xs : List SyncOp) → is_none_of xs ≡ true → xs ≡ []
  none_of [] e = refl
  none_of (x ∷ xs) e = cc

  behind : (before : Groups) (g : List SyncOp) → joined (before ++ g ∷ []) ≡ joined before ++ g
  behind before g = joined-append before (g ∷ []) ∙ ap (λ zs. joined before ++ zs) (append-nil g)

  groups_first : (before gs : Groups) → within (joined before) ≡ true → ¬ (joined (before ++ gs) ≡ []) → IsFirst within (before ++ gs) (cut_groups within (joined before) gs).0 (cut_groups within (joined before) gs).1
  groups_first before [] short some = record {
    some = λ e. some (ap joined (append-nil before) ∙ e);
    whole = ap joined (append-nil before) ∙ sym (append-nil (joined before));
    way = inl (record { few = before; split = refl; all = refl; short = short; longest = λ g more e. absurd cc });
  }
  groups_first before (g ∷ gs) short some =
      by (within (joined before ++ g)) (is_none_of (joined before)) refl refl
      (λ e. groups_first (before ++ g ∷ []) gs (ap within (behind before g) ∙ e) (λ none. some (ap joined (sym (append_assoc before (g ∷ []) gs)) ∙ none)))
    where
      again : (before ++ g ∷ []) ++ gs ≡ before ++ g ∷ gs
      again = append_assoc before (g ∷ []) gs

      by : (b c : Bool) → within (joined before ++ g) ≡ b → is_none_of (joined before) ≡ c
          → (within (joined before ++ g) ≡ true → IsFirst within ((before ++ g ∷ []) ++ gs) (cut_groups within (joined (before ++ g ∷ [])) gs).0 (cut_groups within (joined (before ++ g ∷ [])) gs).1)
          → IsFirst within (before ++ g ∷ gs) (cond b (cut_groups within (joined before ++ g) gs) (cond c (cut_group within g gs) (joined before, g ∷ gs))).0 (cond b (cut_groups within (joined before ++ g) gs) (cond c (cut_group within g gs) (joined before, g ∷ gs))).1
      by true c e f more =
          subst (λ t. IsFirst within (before ++ g ∷ gs) (cut_groups within t gs).0 (cut_groups within t gs).1) (behind before g)
          (subst (λ all. IsFirst within all (cut_groups within (joined (before ++ g ∷ [])) gs).0 (cut_groups within (joined (before ++ g ∷ [])) gs).1) again (more e))
      by false true e f more = group_first before g gs (none_of (joined before) f) (sym (ap (λ zs. within (zs ++ g)) (none_of (joined before) f)) ∙ e)
      by false false e f more = record {
        some = some_of (joined before) f;
        whole = joined-append before (g ∷ gs);
        way = inl (record { few = before; split = refl; all = refl; short = short; longest = λ other more same. subst (λ z. within (joined before ++ z) ≡ false) (same_group g other gs more same) e });
      }

pub cut_is_first : CutIsFirst
cut_is_first within gs limit some = groups_first within limit [] gs limit.none some

-- ---- without a limit

all_taken : (taken : List SyncOp) (gs : Groups) → cut_groups (λ ops. true) taken gs ≡ (taken ++ joined gs, [])
all_taken taken [] = ap (λ zs. (zs, [])) (sym (append-nil taken))
all_taken taken (g ∷ gs) = all_taken (taken ++ g) gs ∙ ap (λ zs. (zs, [])) (append_assoc taken g (joined gs))

pub cut_of_all : CutOfAll
cut_of_all gs = all_taken [] gs
