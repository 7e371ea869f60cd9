-- What is whole of a damaged file.
use Rattle.std.specs.Prelude.{◌≡◌, ◌<◌, ℕ, zero, suc, Bool, true, false, List, [], ◌∷◌, Option, Some, None, take, nat_eq, if◌then◌else◌}
use Rattle.tw_check.specs.declared.kind.Kind.{Kind}
use Rattle.tw_check.specs.declared.saving.Front.{Front}
use Rattle.tw_check.specs.declared.saving.Rescued.{Rescued}
use Rattle.tw_check.specs.Kinds.{Opens, IsBadIn, HasCount}

-- a file is cut so often, each time at the offset of its damage
abbrev pub Cuts : Kind → ℕ → (file front : List ℕ) → Type 0
Cuts kind zero file front = front ≡ file
Cuts kind (suc n) file front = (offset : ℕ) × IsBadIn kind file offset × Cuts kind n (take offset file) front

-- the front of a file: it is cut at its damage until it opens
pub record IsFront (kind : Kind) (file front : List ℕ) : Type 0 where
  pub times : ℕ
  pub cuts : Cuts kind times file front
  pub opens : Opens kind front

-- no record is in the front
abbrev pub IsFrontEmpty : Kind → List ℕ → Type 0
IsFrontEmpty kind file = (front : List ℕ) × IsFront kind file front × HasCount kind front 0

-- the front, which has so many records
pub record IsFrontWith (kind : Kind) (file front : List ℕ) (records : ℕ) : Type 0 where
  pub front_is : IsFront kind file front
  pub counted : HasCount kind front records
  pub some : 0 < records

-- the front, or none if it has no record
abbrev pub IsFrontOrNone : Kind → List ℕ → Option Front → Type 0
IsFrontOrNone kind file None = IsFrontEmpty kind file
IsFrontOrNone kind file (Some front) = IsFrontWith kind file front.bytes.items front.records

-- the first byte by which the other slot of a file counts, if it has two
abbrev pub other_selector_of : List ℕ → Option ℕ
other_selector_of [] = None
other_selector_of (first ∷ more) = if nat_eq first 2 then Some 3 else if nat_eq first 3 then Some 2 else None

-- the file whose other slot counts
abbrev pub turned_by : Option ℕ → List ℕ → Option (List ℕ)
turned_by None file = None
turned_by (Some first) [] = None
turned_by (Some first) (old ∷ more) = Some (first ∷ more)

abbrev pub turned : List ℕ → Option (List ℕ)
turned file = turned_by (other_selector_of file) file

-- no record is in the front by the other slot, if there is one
abbrev pub IsOtherEmpty : Kind → Option (List ℕ) → Type 0
IsOtherEmpty kind None = Unit {0}
IsOtherEmpty kind (Some other) = IsFrontEmpty kind other

-- the front by the other slot, which has so many records
abbrev pub IsOtherFront : Kind → Option (List ℕ) → List ℕ → ℕ → Type 0
IsOtherFront kind None front records = ⊥
IsOtherFront kind (Some other) front records = IsFrontWith kind other front records

-- the front of the file, or the older one by the other slot, only if no record is in that
abbrev pub IsSaved : Kind → List ℕ → (is_older : Bool) → List ℕ → (records : ℕ) → Type 0
IsSaved kind file false bytes records = IsFrontWith kind file bytes records
IsSaved kind file true bytes records = IsFrontEmpty kind file × IsOtherFront kind (turned file) bytes records

-- what is saved of a file, or nothing if no record is in either front
abbrev pub IsRescue : Kind → List ℕ → Option Rescued → Type 0
IsRescue kind file None = IsFrontEmpty kind file × IsOtherEmpty kind (turned file)
IsRescue kind file (Some rescued) = IsSaved kind file rescued.is_older rescued.bytes.items rescued.records
