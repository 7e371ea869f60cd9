-- Where code that goes along a path is.
use Rattle.std.specs.Prelude.{◌≡◌, ℕ, true, false, cond, List, [], ◌∷◌, ◌++◌, Option, None}
use Rattle.std.specs.BTreeSet as set
use Rattle.std.specs.FinMap.{get}
use Rattle.tw_model.specs.Maps.{bytes_cmp}
use Rattle.tw_model.specs.Ops.{TasksValue, apply}
use Rattle.tw_model.specs.LocalOps.{plain, take_back_all}
use Rattle.tw_model.specs.Places.{has_uuid}
use Rattle.tw_model.specs.declared.Op.{Op}
use Rattle.tw_model.specs.declared.SyncOp.{SyncOp}
use Rattle.tw_protocol.specs.Chain.{Version}
use Rattle.tw_groups.specs.Groups.{joined, groups_of, pending_on}
use Rattle.tw_groups.specs.Cross.{cross}
use Rattle.tw_groups.specs.Held.{groups_in}
use Rattle.tw_groups.specs.Laws.{AreApart}
use Rattle.tw_path.specs.Path.{Reached, passed}
use Rattle.tw_path.specs.Path.Leg.{Pull, Push}
use Rattle.tw_path.specs.Presence.{Tells}
use Rattle.tw_path.specs.declared.walker.Walker.{Walker}

-- beside the tasks at hand it is at a place: it knows which uuids have a task there, and the tasks of those that pending operations are about
pub record StandsAt (hand : TasksValue) (r : Reached) (w : Walker) : Type 0 where
  pub at : w.at ≡ r.at
  pub there : Tells w.there hand r.tasks
  pub part : (u : List ℕ) → set.contains bytes_cmp w.mine u ≡ true → get w.tasks u ≡ get r.tasks u
  pub mine : (u : List ℕ) → set.contains bytes_cmp w.mine u ≡ false → AreApart u (joined r.left)
  pub left : groups_in w.left.items ≡ r.left
  pub carried : w.carried ≡ r.carried

-- the place before operations that are pending: these are taken back from the tasks at hand, all their groups are left, and nothing is carried
abbrev pub before_pending : List ℕ → TasksValue → List Op → Reached
before_pending base hand pending = record { at = base; tasks = take_back_all hand pending; left = groups_of pending; carried = [] }

-- pending operations are taken back from the tasks at hand: of those that they are about it has the tasks before, and no others
pub record IsBefore (hand : TasksValue) (ops : List Op) (w : Walker) : Type 0 where
  pub there : Tells w.there hand (take_back_all hand ops)
  pub part : (u : List ℕ) → set.contains bytes_cmp w.mine u ≡ true → get w.tasks u ≡ get (take_back_all hand ops) u
  pub none : (u : List ℕ) → set.contains bytes_cmp w.mine u ≡ false → get w.tasks u ≡ None
  pub mine : (u : List ℕ) → set.contains bytes_cmp w.mine u ≡ false → AreApart u (plain ops)

-- once the task of a uuid is copied, if there is a uuid: it is among them, and what is copied is what the tasks at hand have
pub record GainsCopy (hand : TasksValue) (v : Option (List ℕ)) (mine : set.BTreeSet (List ℕ)) (tasks : TasksValue)
    (more : set.BTreeSet (List ℕ)) (copied : TasksValue) : Type 0 where
  pub among : (u : List ℕ) → set.contains bytes_cmp more u ≡ cond (has_uuid u v) true (set.contains bytes_cmp mine u)
  pub has : ((u : List ℕ) → set.contains bytes_cmp mine u ≡ false → get tasks u ≡ None) → (u : List ℕ)
      → get copied u ≡ cond (set.contains bytes_cmp mine u) (get tasks u) (cond (has_uuid u v) (get hand u) None)

-- an operation is carried, and nothing else changes
abbrev pub IsCarriedAlone : SyncOp → (old new : Walker) → Type 0
IsCarriedAlone op old new = (new.tasks ≡ old.tasks) × (new.left ≡ old.left) × (new.carried ≡ old.carried ++ op ∷ [])

-- an operation is applied, and crosses what is left
abbrev pub IsCrossed : SyncOp → (old new : Walker) → Type 0
IsCrossed op old new = (new.tasks ≡ apply old.tasks op) × (groups_in new.left.items ≡ (cross (op ∷ []) (groups_in old.left.items)).1)
    × (new.carried ≡ old.carried ++ (cross (op ∷ []) (groups_in old.left.items)).0)

-- from each place at which it was it goes on to the place after a version with this id and these operations, if that is pulled
abbrev pub GoesOverPull : TasksValue → (id : List ℕ) → List SyncOp → (old new : Walker) → Type 0
GoesOverPull hand id ops old new = (r : Reached) (v : Version) → v.id ≡ id → StandsAt hand r old → StandsAt hand (passed r (Pull v ops)) new

-- and if it was pushed
abbrev pub GoesOverPush : (id : List ℕ) → List SyncOp → (old new : Walker) → Type 0
GoesOverPush id ops old new = (hand : TasksValue) (r : Reached) (v : Version) → v.id ≡ id → StandsAt hand r old → StandsAt hand (passed r (Push v ops)) new

-- what is pending at each place at which it is
abbrev pub IsPendingThere : Walker → List Op → Type 0
IsPendingThere w ops = (hand : TasksValue) (r : Reached) → StandsAt hand r w → ops ≡ pending_on r.tasks r.left
