-- The groups of what is pending, and the last of them.
use Rattle.std.proofs.Common.{◌≡◌, ◌∙◌, ◌⊎◌, inl, inr, refl, ap, subst, Bool, true, false, cond, List, [], ◌∷◌, ◌++◌, Option, Some, None}
use Rattle.tw_model.specs.LocalOps.{synced, plain, take_back_all}
use Rattle.tw_model.specs.declared.Op.{Op}
use Rattle.tw_model.specs.declared.Op.TheVariants.{Create, Delete, Update, UndoPoint}
use Rattle.tw_model.specs.declared.SyncOp.{SyncOp}
use Rattle.tw_bodies.specs.Body.{is_group, has_no_point}
use Rattle.tw_fields.specs.Reading.{◌>>=◌}
use Rattle.tw_groups.specs.Groups.{Groups, put_in_front, parts_of, groups_of}
use Rattle.tw_state.specs.State.{State, undone, moved_to, split_group, in_front}
use Rattle.tw_state.proofs.Groups.{split_is}
use Rattle.tw_sync.proofs.PendingOps.{some_state}
use Rattle.tw_cli.specs.Surviving.{IsIn}

-- ---- groups of pending operations

front_append : (o : Option SyncOp) (parts : List SyncOp × Groups) (gs : Groups) → put_in_front o (parts.0, parts.1 ++ gs) ≡ ((put_in_front o parts).0, (put_in_front o parts).1 ++ gs)
front_append None parts gs = refl
front_append (Some op) parts gs = refl

-- operations that begin with an undo point are groups after those of others
parts_append : (xs ys : List Op) → (parts_of ys).0 ≡ [] → parts_of (xs ++ ys) ≡ ((parts_of xs).0, (parts_of xs).1 ++ groups_of ys)
parts_append [] ys e = ap (λ (l : List SyncOp). (l, groups_of ys)) e
parts_append (x ∷ xs) ys e = ap (put_in_front (synced x)) (parts_append xs ys e) ∙ front_append (synced x) (parts_of xs) (groups_of ys)

pub groups_append : (xs ys : List Op) → (parts_of ys).0 ≡ [] → groups_of (xs ++ ys) ≡ groups_of xs ++ groups_of ys
groups_append xs ys e = ap (λ (parts : List SyncOp × Groups). parts.1) (parts_append xs ys e)

pub group_begins : (ops : List Op) → is_group ops ≡ true → (parts_of ops).0 ≡ []
group_begins [] e = refl
group_begins (UndoPoint ∷ ops) e = refl
group_begins (Create u ∷ ops) e = absurd cc
group_begins (Delete u before ∷ ops) e = absurd cc
group_begins (Update u p before after at ∷ ops) e = absurd cc

-- operations without an undo point are no group yet
no_groups : (ops : List Op) → has_no_point ops ≡ true → parts_of ops ≡ (plain ops, [])
no_groups [] e = refl
no_groups (UndoPoint ∷ ops) e = absurd cc
no_groups (Create u ∷ ops) e = ap (put_in_front (synced (Create u))) (no_groups ops e)
no_groups (Delete u before ∷ ops) e = ap (put_in_front (synced (Delete u before))) (no_groups ops e)
no_groups (Update u p before after at ∷ ops) e = ap (put_in_front (synced (Update u p before after at))) (no_groups ops e)

-- those of a group are one
pub group_of_ops : (ops : List Op) → is_group ops ≡ true → (plain ops ≡ []) ⊎ IsIn (groups_of ops) (plain ops)
group_of_ops [] e = inl refl
group_of_ops (UndoPoint ∷ ops) e = inr (inl (ap (λ (parts : List SyncOp × Groups). parts.0) (no_groups ops e)))
group_of_ops (Create u ∷ ops) e = absurd cc
group_of_ops (Delete u before ∷ ops) e = absurd cc
group_of_ops (Update u p before after at ∷ ops) e = absurd cc

-- ---- the last group

-- after the last undo point there is none
none_after : (ops : List Op) (parts : List Op × List Op) → split_group ops ≡ Some parts → split_group parts.1 ≡ None
none_after [] parts e = absurd cc
none_after (op ∷ ops) parts e = by (split_group ops) refl e (none_after ops)
  where
    first : (a b : List Op × List Op) → Some a ≡ Some b → a ≡ b
    first a b f = cc

    point : (p : Bool) → split_group ops ≡ None → cond p (Some ([], ops)) None ≡ Some parts → split_group parts.1 ≡ None
    point true none f = subst (λ (q : List Op × List Op). split_group q.1 ≡ None) (first ([], ops) parts f) none
    point false none f = absurd cc

    by : (o : Option (List Op × List Op)) → split_group ops ≡ o → in_front op ops o ≡ Some parts → ((inner : List Op × List Op) → split_group ops ≡ Some inner → split_group inner.1 ≡ None) → split_group parts.1 ≡ None
    by (Some inner) s f rec = subst (λ (q : List Op × List Op). split_group q.1 ≡ None) (first (op ∷ inner.0, inner.1) parts f) (rec inner s)
    by None s f rec = point _ s f

none_grouped : (ops : List Op) → split_group ops ≡ None → groups_of ops ≡ []
none_grouped [] e = refl
none_grouped (op ∷ ops) e = by (split_group ops) refl e (none_grouped ops)
  where
    after : (o : Op) → in_front o ops None ≡ None → groups_of ops ≡ [] → groups_of (o ∷ ops) ≡ []
    after UndoPoint f more = absurd cc
    after (Create u) f more = more
    after (Delete u before) f more = more
    after (Update u p before now at) f more = more

    by : (o : Option (List Op × List Op)) → split_group ops ≡ o → in_front op ops o ≡ None → (split_group ops ≡ None → groups_of ops ≡ []) → groups_of (op ∷ ops) ≡ []
    by (Some inner) s f rec = absurd cc
    by None s f rec = after op f (rec s)

-- the groups before it, and it
last_group : (ops : List Op) (parts : List Op × List Op) → split_group ops ≡ Some parts → (g : List SyncOp) × (groups_of ops ≡ groups_of parts.0 ++ g ∷ [])
last_group ops parts e = (
  (parts_of parts.1).0,
  ap groups_of (split_is ops parts e)
      ∙ groups_append parts.0 (UndoPoint ∷ parts.1) refl
      ∙ ap (λ (gs : Groups). groups_of parts.0 ++ (parts_of parts.1).0 ∷ gs) (none_grouped parts.1 (none_after ops parts e)),
)

-- a group is the last one, or one of those before it
pub last_or : (xs : Groups) (x : List SyncOp) (left : List SyncOp) → IsIn (xs ++ x ∷ []) left → IsIn xs left ⊎ (x ≡ left)
last_or [] x left (inl same) = inr same
last_or [] x left (inr none) = absurd none
last_or (y ∷ xs) x left (inl same) = inl (inl same)
last_or (y ∷ xs) x left (inr later) = by (last_or xs x left later)
  where
    by : IsIn xs left ⊎ (x ≡ left) → IsIn (y ∷ xs) left ⊎ (x ≡ left)
    by (inl is) = inl (inr is)
    by (inr same) = inr same

-- what an undo leaves
pub record IsUndoneOf (state next : State) : Type 0 where
  pub base : next.base ≡ state.base
  pub group : List SyncOp
  pub groups : groups_of state.pending ≡ groups_of next.pending ++ group ∷ []

pub undo_leaves : (state next : State) → undone state ≡ Some next → IsUndoneOf state next
undo_leaves state next e = by (split_group state.pending) refl e
  where
    by : (o : Option (List Op × List Op)) → split_group state.pending ≡ o → o >>= (λ parts. Some (moved_to false parts.0 (take_back_all state.tasks parts.1) state)) ≡ Some next → IsUndoneOf state next
    by None s f = absurd cc
    by (Some parts) s f =
        let last = last_group state.pending parts s in
        subst (IsUndoneOf state) (some_state (moved_to false parts.0 (take_back_all state.tasks parts.1) state) next f)
        (record { base = refl; group = last.0; groups = last.1 })
