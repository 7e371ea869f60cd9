-- A folder of files: what it holds, and what its calls do to that.
use Rattle.std.specs.Prelude.{◌≡◌, ◌⊎◌, ℕ, ◌<◌, List, [], ◌∷◌, slice_index_or, Bool, not, ◌&&◌, ◌==◌, ◌||◌, codes, length, nat_lt, nat_eq}
use Rattle.std.specs.Prelude.{Option, option_map}
use Rattle.std.proofs.Common.{Vec, Global}
use Rattle.std.specs.declared.cmp.Ordering.{Ordering}
use Rattle.std.specs.declared.cmp.Ordering.TheVariants.{Greater}
use Rattle.std.specs.Ordering.{nat_cmp}
use Rattle.std.specs.Cmp.Lexicographic.{slice_cmp}
use Rattle.std.specs.FinMap.{FinMap, get, insert}
use Rattle.std.specs.FinMap.Entries.{by_order}
use Rattle.std.specs.List.{list_any, insert as insert_at}
use Rattle.tw_world.specs.Crash.{CrashModel, Tells}
use lib.Pointwise.{pointwise}

-- byte order
abbrev pub bytes_cmp : List ℕ → List ℕ → Ordering
bytes_cmp = slice_cmp nat_cmp

-- whether two texts are the same bytes
abbrev pub same_bytes : List ℕ → List ℕ → Bool
same_bytes = pointwise nat_eq

-- the files of a folder: their bytes by their names
abbrev pub Files : Type 0
Files = FinMap bytes_cmp (List ℕ)

abbrev pub FolderModel : Type 0 → Type 1
FolderModel F = CrashModel F Files

-- all or nothing of a replacement
abbrev pub Replaced : List ℕ → List ℕ → Files → Files → Type 0
Replaced name bytes old new = (new ≡ old) ⊎ (new ≡ insert old name bytes)

-- the folder has this file under the name, or has none there
abbrev pub HasFile : {F : Type 0} → FolderModel F → F → (name : List ℕ) → Option (Vec ℕ Global) → Type 0
HasFile m folder name file = Tells m folder → option_map (λ (bytes : Vec ℕ Global). bytes.items) file ≡ get (m.seen folder) name

-- the folder has these bytes under the name now, and else what it had
abbrev pub HasPut : {F : Type 0} → FolderModel F → (old new : F) → (name bytes : List ℕ) → Type 0
HasPut m old new name bytes = Tells m old → m.seen new ≡ insert (m.seen old) name bytes

-- it has, or it has what it had
abbrev pub HasPutOrNot : {F : Type 0} → FolderModel F → (old new : F) → (name bytes : List ℕ) → Type 0
HasPutOrNot m old new name bytes = Tells m old → Replaced name bytes (m.seen old) (m.seen new)

-- a name that a file of a folder may have
abbrev pub is_file_name : List ℕ → Bool
is_file_name name =
    nat_lt 0 (length name) && not (same_bytes name (codes ".")) && not (same_bytes name (codes ".."))
    && not (list_any (λ b. (b == 47) || (b == 0)) name)

-- ---- names that rise

-- the name among names that rise, if it was not there
abbrev pub add_name : List ℕ → List (List ℕ) → List (List ℕ)
add_name k [] = k ∷ []
add_name k (x ∷ xs) = by_order (bytes_cmp k x) (k ∷ x ∷ xs) (x ∷ xs) (x ∷ add_name k xs)

-- among names that rise the name would be the one with this index
abbrev pub GoesTo : List ℕ → List (List ℕ) → ℕ → Type 0
GoesTo k xs i = add_name k xs ≡ insert_at xs i k

-- the names before an index are below the name
abbrev pub AreBelow : List ℕ → List (List ℕ) → ℕ → Type 0
AreBelow k xs i = (j : ℕ) → j < i → bytes_cmp k (slice_index_or xs j []) ≡ Greater
