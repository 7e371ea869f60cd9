-- Which operations are sent as one version, and what is left after them.
use Rattle.std.specs.Prelude.{◌≡◌, ◌⊎◌, ℕ, Bool, true, false, cond, List, [], ◌∷◌, ◌++◌}
use Rattle.tw_model.specs.declared.SyncOp.{SyncOp}
use Rattle.tw_groups.specs.Groups.{Groups, joined}

-- whether there are no operations
abbrev pub is_none_of : List SyncOp → Bool
is_none_of [] = true
is_none_of (op ∷ ops) = false

-- a group in front of others, if it holds any operation
abbrev pub put_group : List SyncOp → Groups → Groups
put_group [] gs = gs
put_group (op ∷ ops) gs = (op ∷ ops) ∷ gs

-- so many operations more as are within the limit with those that are taken, and the others
abbrev pub cut_ops : (List SyncOp → Bool) → List SyncOp → List SyncOp → List SyncOp × List SyncOp
cut_ops within taken [] = (taken, [])
cut_ops within taken (op ∷ ops) = cond (within (taken ++ op ∷ [])) (cut_ops within (taken ++ op ∷ []) ops) (taken, op ∷ ops)

-- of a group that is too long alone the first operation and so many more as are within the limit. The others stay a group
abbrev pub cut_group : (List SyncOp → Bool) → List SyncOp → Groups → List SyncOp × Groups
cut_group within [] gs = ([], gs)
cut_group within (op ∷ ops) gs = let parts = cut_ops within (op ∷ []) ops in (parts.0, put_group parts.1 gs)

-- so many groups more as are within the limit with the operations that are taken, and the others
abbrev pub cut_groups : (List SyncOp → Bool) → List SyncOp → Groups → List SyncOp × Groups
cut_groups within taken [] = (taken, [])
cut_groups within taken (g ∷ gs) =
    cond (within (taken ++ g)) (cut_groups within (taken ++ g) gs)
    (cond (is_none_of taken) (cut_group within g gs) (taken, g ∷ gs))

-- what is sent first of groups, and the rest
abbrev pub cut : (List SyncOp → Bool) → Groups → List SyncOp × Groups
cut within gs = cut_groups within [] gs

abbrev pub first : (List SyncOp → Bool) → Groups → List SyncOp
first within gs = (cut within gs).0

abbrev pub rest : (List SyncOp → Bool) → Groups → Groups
rest within gs = (cut within gs).1

-- ---- what this is

-- a limit: no operations are within it, and operations within it are so without the last of them
pub record IsLimit (within : List SyncOp → Bool) : Type 0 where
  pub none : within [] ≡ true
  pub fewer : (xs ys : List SyncOp) → within (xs ++ ys) ≡ true → within xs ≡ true

-- whole groups are sent, and with the next one they would be too long
pub record IsRowOfGroups (within : List SyncOp → Bool) (gs : Groups) (sent : List SyncOp) (left : Groups) : Type 0 where
  pub few : Groups
  pub split : gs ≡ few ++ left
  pub all : sent ≡ joined few
  pub short : within sent ≡ true
  pub longest : (g : List SyncOp) (more : Groups) → left ≡ g ∷ more → within (sent ++ g) ≡ false

-- the first operations are sent of a group that is too long alone. They are within the limit, or it is one operation. With the next
-- one they would be too long
pub record IsPartOfGroup (within : List SyncOp → Bool) (gs : Groups) (sent : List SyncOp) (left : Groups) : Type 0 where
  pub none : Groups
  pub g : List SyncOp
  pub more : Groups
  pub split : gs ≡ none ++ g ∷ more
  pub empty : joined none ≡ []
  pub long : within g ≡ false
  pub others : List SyncOp
  pub parts : g ≡ sent ++ others
  pub is_left : left ≡ put_group others more
  pub short : (within sent ≡ true) ⊎ ((op : SyncOp) × (sent ≡ op ∷ []))
  pub longest : (op : SyncOp) (ops : List SyncOp) → others ≡ op ∷ ops → within (sent ++ op ∷ []) ≡ false

-- what is sent first of groups that hold an operation
pub record IsFirst (within : List SyncOp → Bool) (gs : Groups) (sent : List SyncOp) (left : Groups) : Type 0 where
  pub some : ¬ (sent ≡ [])
  pub whole : joined gs ≡ sent ++ joined left
  pub way : IsRowOfGroups within gs sent left ⊎ IsPartOfGroup within gs sent left
