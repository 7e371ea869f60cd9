-- The pending operations as a replica keeps them: in the bodies of the commits that they came with.
use Rattle.std.specs.Prelude.{◌≡◌, ◌≤◌, ℕ, true, List, [], ◌∷◌, ◌++◌, length, drop, Option, Some, None}
use Rattle.std.specs.List.{AllByRecursion}
use Rattle.std.specs.Global.{Vec}
use Rattle.tw_model.specs.declared.Op.{Op}
use Rattle.tw_bodies.specs.Body.{is_group}
use Rattle.tw_bodies.specs.Reading.{group_of}
use Rattle.tw_state.specs.declared.pending.Group.{Group}

abbrev pub ops_or_none : Option (List Op) → List Op
ops_or_none None = []
ops_or_none (Some ops) = ops

-- the operations of a commit's body, which come after the bytes of its kind and of its flag
abbrev pub group_in : List ℕ → List Op
group_in body = ops_or_none (group_of (drop 2 body))

-- the operations of bodies, one after another
abbrev pub groups_in : List Group → List Op
groups_in [] = []
groups_in (kept ∷ more) = group_in kept.body.items ++ groups_in more

-- a body that is kept holds so many operations, one or more
pub record IsCounted (kept : Group) : Type 0 where
  pub count : kept.count ≡ length (group_in kept.body.items)
  pub some : 1 ≤ kept.count

-- bodies are kept, which hold so many operations
pub record AreCounted (bodies : List Group) (all : ℕ) : Type 0 where
  pub each : AllByRecursion IsCounted bodies
  pub count : all ≡ length (groups_in bodies)

-- these are the last group of pending operations, after others
pub record IsLastOf (pending ops : List Op) : Type 0 where
  pub left : List Op
  pub whole : pending ≡ left ++ ops
  pub group : is_group ops ≡ true
  pub some : 1 ≤ length ops

-- the last group of pending operations, if there are any
abbrev pub IsLast : List Op → Option (Vec Op) → Type 0
IsLast pending None = pending ≡ []
IsLast pending (Some ops) = IsLastOf pending ops.items
