-- What the system says of the files of a folder.
use Rattle.std.specs.Prelude.{◌≡◌, ◌≢◌, ◌⊎◌, ℕ, ◌<◌, List, ◌∷◌, ◌++◌, map, codes, length, Option, Some, None}
use Rattle.std.proofs.Common.{String, Global}
use Rattle.std.specs.Option.{ForSome}
use Rattle.std.specs.String.{string_bytes, string_cmp}
use Rattle.std.specs.List.Sorted.{IsPermutation, IsSorted}
use Rattle.std.specs.IoError.{error_kind}
use Rattle.std.specs.declared.io.Error.{Error}
use Rattle.std.specs.declared.io.ErrorKind.TheVariants.{OutOfMemory}

-- an open file has these bytes, if they are known
abbrev pub HasBytes : Option (List ℕ) → List ℕ → Type 0
HasBytes held bytes = ForSome held (λ all. all ≡ bytes)

-- there is a file with what an open file has, whatever that is
abbrev pub IsUnder : Option (List ℕ) → (Option (List ℕ) → Type 0) → Type 0
IsUnder contents has = (bytes : List ℕ) → HasBytes contents bytes → has (Some bytes)

-- A folder has a file with what an open file has, or has none.
abbrev pub IsThere : {F : Type 0} → (F → Option (List ℕ)) → (Option (List ℕ) → Type 0) → Option F → Type 0
IsThere contents has None = has None
IsThere contents has (Some file) = IsUnder (contents file) has

-- the path of a file in a folder
abbrev pub path_in : List ℕ → List ℕ → List ℕ
path_in folder name = folder ++ 47 ∷ name

-- what a folder has, by its path: the names of its files in any order, or nothing if it is not there
abbrev pub Listing : Type 0 → Type 1
Listing S = S → List ℕ → Option (List (List ℕ)) → Type 0

-- what a path has: the bytes of its file, or nothing if there is none
abbrev pub Holding : Type 0 → Type 1
Holding S = S → List ℕ → Option (List ℕ) → Type 0

-- the names of all files that a folder has, in byte order
pub record AreListed (lists : Option (List (List ℕ)) → Type 0) (names : List (String Global)) : Type 0 where
  pub found : List (List ℕ)
  pub listed : lists (Some found)
  pub same : IsPermutation found (map string_bytes names)
  pub rising : IsSorted string_cmp names

-- each file stays, and each folder has the names that it had
pub record FilesStay {S : Type 0} (has : Holding S) (lists : Listing S) (old new : S) : Type 0 where
  pub files : (path : List ℕ) (bytes : Option (List ℕ)) → has old path bytes → has new path bytes
  pub names : (folder : List ℕ) (names : Option (List (List ℕ))) → lists old folder names → lists new folder names

-- there was no memory, or the system has failed
abbrev pub FailsAlone : (may_fail : Type 0) → Error → Type 0
FailsAlone may_fail e = (error_kind e ≡ OutOfMemory) ⊎ may_fail

-- a file is longer than 64 MiB
abbrev pub IsTooLong : (has : Option (List ℕ) → Type 0) → Type 0
IsTooLong has = (bytes : List ℕ) × has (Some bytes) × (67_108_864 < length bytes)

-- each file but these two stays
abbrev pub OthersStay : {S : Type 0} → Holding S → (one two : List ℕ) → (old new : S) → Type 0
OthersStay has one two old new = (path : List ℕ) (bytes : Option (List ℕ)) → path ≢ one → path ≢ two → has old path bytes → has new path bytes

-- a file has what it had, or these bytes
abbrev pub HasEither : {S : Type 0} → Holding S → (path bytes : List ℕ) → (old new : S) → Type 0
HasEither has path bytes old new = (before : Option (List ℕ)) → has old path before → has new path before ⊎ has new path (Some bytes)

-- a folder's file has what it had, or these bytes, and no other file is touched but the one named `.new`
pub record ReplacesOne {S : Type 0} (has : Holding S) (folder name bytes : List ℕ) (old new : S) : Type 0 where
  pub either : name ≢ codes ".new" → HasEither has (path_in folder name) bytes old new
  pub others : OthersStay has (path_in folder (codes ".new")) (path_in folder name) old new
