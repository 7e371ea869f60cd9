-- What one sync has sent, a later one does not send again.
use Rattle.std.specs.Prelude.{◌≡◌, ◌⊎◌, ℕ, List, [], ◌∷◌, ◌++◌}
use Rattle.std.specs.List.{AllByRecursion}
use Rattle.tw_model.specs.Ops.{TasksValue, FitAll, fit_part}
use Rattle.tw_model.specs.declared.SyncOp.{SyncOp}
use Rattle.tw_protocol.specs.Chain.{Version, IsChain, IsBetween, HoldsAll, Grows}
use Rattle.tw_transform.specs.Grid.{grid}
use Rattle.tw_transform.specs.Positions.{IsPosition}
use Rattle.tw_groups.specs.Groups.{joined}
use Rattle.tw_groups.specs.Cut.{rest}
use Rattle.tw_path.specs.Fold.{Reads}
use Rattle.tw_path.specs.Path.{Reached, Leg, come, IsPush, IsPath, is_batch, versions_of, added_of}
use Rattle.tw_path.specs.Path.Leg.{Push}

-- of what is left here, `mine` is in the chain up to a version: once the versions up to it are pulled, nothing of it is left. `later` comes
-- after it
pub record WasSent (r : Reached) (chain : List Version) (mine later : List SyncOp) (w : List ℕ) : Type 0 where
  pub all : joined r.left ≡ mine ++ later
  pub versions : List Version
  pub pulled : List SyncOp
  pub behind : IsBetween chain r.at w versions
  pub reads : Reads versions pulled
  pub nothing : IsPosition r.tasks mine pulled []

-- so much of the later operations is left once that version is pulled
abbrev pub left_of_later : TasksValue → (mine later pulled : List SyncOp) → List SyncOp
left_of_later tasks mine later pulled = (grid (grid (fit_part tasks pulled) mine).0 later).1

-- each version that is pushed comes after all that the chain held
abbrev pub PushesBehind : (before after : List Version) → List Leg → Type 0
PushesBehind before after legs = AllByRecursion (λ v. HoldsAll before after v.parent) (added_of legs)

-- a path comes to that version without a push, and what is left there is left of the later operations alone
pub record SendsLater (r : Reached) (legs : List Leg) (w : List ℕ) (mine later pulled : List SyncOp) : Type 0 where
  pub first : List Leg
  pub more : List Leg
  pub split : legs ≡ first ++ more
  pub none : added_of first ≡ []
  pub at : (come r first).at ≡ w
  pub left : joined (come r first).left ≡ left_of_later r.tasks mine later pulled

-- what is pushed on a path was sent: the first operations, up to the last of those that the version holds
abbrev pub PushWasSent : Type 0
PushWasSent = (r : Reached) (chain : List Version) (legs more : List Leg) (v : Version) (ops : List SyncOp) → FitAll r.tasks (joined r.left)
    → IsPath r (legs ++ Push v ops ∷ more) → IsBetween chain r.at v.id (versions_of (legs ++ Push v ops ∷ []))
    → (mine : List SyncOp) × (later : List SyncOp) × (was : WasSent r chain mine later v.id)
    × (left_of_later r.tasks mine later was.pulled ≡ joined (rest is_batch (come r legs).left))

-- a version that is pushed at the start of a path was sent: what is sent first is in the chain, the rest is later
abbrev pub UntoldWasSent : Type 0
UntoldWasSent = (r : Reached) (chain : List Version) (v : Version) (ops : List SyncOp) → FitAll r.tasks (joined r.left) → IsPush r v ops
    → IsBetween chain r.at v.id (v ∷ []) → (was : WasSent r chain ops (joined (rest is_batch r.left)) v.id)
    × (left_of_later r.tasks ops (joined (rest is_batch r.left)) was.pulled ≡ joined (rest is_batch r.left))

-- what was sent stays so as the chain grows, whatever comes after it in place of the later operations
abbrev pub SentStays : Type 0
SentStays = (r now : Reached) (old new : List Version) (mine later others : List SyncOp) (w : List ℕ) → WasSent r old mine later w
    → now.at ≡ r.at → now.tasks ≡ r.tasks → joined now.left ≡ mine ++ others → Grows old new → WasSent now new mine others w

-- a path to the end of all that the chain held sends what is left of the later operations alone
abbrev pub SentIsNotSentAgain : Type 0
SentIsNotSentAgain = (before after : List Version) (r : Reached) (legs : List Leg) (mine later : List SyncOp) (w : List ℕ) → IsChain after
    → Grows before after → FitAll r.tasks (joined r.left) → IsPath r legs → IsBetween after r.at (come r legs).at (versions_of legs)
    → PushesBehind before after legs → HoldsAll before after (come r legs).at → (was : WasSent r before mine later w)
    → SendsLater r legs w mine later was.pulled

-- and one that ends before that has sent nothing
abbrev pub SentIsNeverSentAgain : Type 0
SentIsNeverSentAgain = (before after : List Version) (r : Reached) (legs : List Leg) (mine later : List SyncOp) (w : List ℕ) → IsChain after
    → Grows before after → FitAll r.tasks (joined r.left) → IsPath r legs → IsBetween after r.at (come r legs).at (versions_of legs)
    → PushesBehind before after legs → (was : WasSent r before mine later w) → (added_of legs ≡ []) ⊎ SendsLater r legs w mine later was.pulled
