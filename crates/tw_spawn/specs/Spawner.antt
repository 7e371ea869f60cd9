-- What an object that runs hooks means, and what its calls do to that.
use Rattle.std.specs.Prelude.{◌≡◌, ◌≤◌, ℕ, Bool, IsTrue, List, [], ◌∷◌, ◌++◌, map, string_bytes, Result, Ok, Err}
use Rattle.std.proofs.Common.{String, Vec, Global}
use Rattle.tw_spawn.specs.declared.spawner.SpawnError.{SpawnError}

-- a hook that was run: what it was given, what it wrote, and the status with which it ended
pub record Run : Type 0 where
  pub name : List ℕ
  pub input : List ℕ
  pub output : List ℕ
  pub status : ℕ

-- what each object that runs hooks means
pub record SpawnerModel (P : Type 0) : Type 1 where
  -- how often it has failed
  pub faults : P → ℕ
  -- does it tell its names and its runs?
  pub tells : P → Bool
  -- the names of its hooks
  pub names : P → List (List ℕ)
  -- the runs that came to their end, in their order
  pub runs : P → List Run

abbrev pub TellsRuns : {P : Type 0} → SpawnerModel P → P → Type 0
TellsRuns m spawner = IsTrue (m.tells spawner)

-- what every call keeps
pub record SpawnerKept {P : Type 0} (m : SpawnerModel P) (old new : P) : Type 0 where
  pub faults : m.faults old ≤ m.faults new
  pub tells : m.tells new ≡ m.tells old
  pub names : m.names new ≡ m.names old

-- the runs after a call: one more if it answered a status
abbrev pub listed : List Run → (name input output : List ℕ) → Result ℕ SpawnError → List Run
listed runs name input output (Ok status) = runs ++ record { name = name; input = input; output = output; status = status } ∷ []
listed runs name input output (Err e) = runs

-- a call gave the names of all hooks
abbrev pub HasNames : {P : Type 0} → SpawnerModel P → P → Vec (String Global) Global → Type 0
HasNames m spawner names = TellsRuns m spawner → map string_bytes names.items ≡ m.names spawner

-- a call ran no hook to its end
abbrev pub RunsNone : {P : Type 0} → SpawnerModel P → (old new : P) → Type 0
RunsNone m old new = TellsRuns m old → m.runs new ≡ m.runs old

-- a call ran a hook to its end if it answered a status, and else none
abbrev pub RunsOne : {P : Type 0} → SpawnerModel P → (old new : P) → (name input output : List ℕ) → Result ℕ SpawnError → Type 0
RunsOne m old new name input output result = TellsRuns m old → m.runs new ≡ listed (m.runs old) name input output result
