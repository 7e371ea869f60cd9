-- Hooks in memory.
use Rattle.std.specs.Prelude.{◌≡◌, ℕ, ◌==◌, cond, Bool, true, false, List, [], ◌∷◌, ◌++◌, map, length, slice_get, string_bytes}
use Rattle.std.specs.Prelude.{Option, Some, None, Result, Err, OnOk, IsErrOf}
use Rattle.std.proofs.Common.{Vec, Global}
use Rattle.tw_world.specs.Calls.{is_to_fail, next_count}
use Rattle.tw_spawn.specs.Spawner.{Run, SpawnerModel}
use Rattle.tw_spawn.specs.declared.spawner.SpawnError.{SpawnError}
use Rattle.tw_spawn.specs.declared.spawner.SpawnError.TheVariants.{Failed}
use Rattle.tw_spawn.specs.declared.memory_spawner.Kept.{Kept}
use Rattle.tw_spawn.specs.declared.memory_spawner.MemorySpawner.{MemorySpawner}

-- a run as it is held
abbrev pub run_of : Kept → Run
run_of k = record { name = string_bytes k.name; input = k.input.items; output = k.output.items; status = k.status }

abbrev pub memory_spawner_model : SpawnerModel MemorySpawner
memory_spawner_model = record {
  faults = λ s. s.faults;
  tells = λ s. true;
  names = λ s. map string_bytes s.names.items;
  runs = λ s. map run_of s.runs.items;
}

-- ---- what it answers

-- an answer: a status and what is written
abbrev pub Answer : Type 0
Answer = ℕ × Vec ℕ Global

-- is this byte the end of a line, if these come after it?
abbrev pub ends_line : ℕ → (rest : List ℕ) → Bool
ends_line b [] = false
ends_line b (c ∷ rest) = b == 10

-- the last line of a text, of which these bytes of a line were read and the rest were not
abbrev pub last_line : (line rest : List ℕ) → List ℕ
last_line line [] = line
last_line line (b ∷ rest) = last_line (cond (ends_line b rest) [] (line ++ b ∷ [])) rest

-- what is answered to an input: what was to be, or else its last line and the status 0
abbrev pub answer_or_line : Option Answer → (input : List ℕ) → ℕ × List ℕ
answer_or_line (Some a) input = (a.0, a.1.items)
answer_or_line None input = (0, last_line [] input)

-- the answers that were given when it was made
abbrev pub spawner_answers : MemorySpawner → List Answer
spawner_answers s = s.answers.items

-- what it answers to an input now: each run that came to its end took one answer
abbrev pub answer_now : MemorySpawner → (input : List ℕ) → ℕ × List ℕ
answer_now s input = answer_or_line (slice_get (spawner_answers s) (length s.runs.items)) input

-- ---- its calls

-- how many calls were made, of both kinds
abbrev pub spawner_calls : MemorySpawner → ℕ
spawner_calls s = s.made

-- the numbers of the calls that are to fail
abbrev pub spawner_fails : MemorySpawner → List ℕ
spawner_fails s = s.fails.items

-- is the next call one that is to fail?
abbrev pub spawner_due : MemorySpawner → Bool
spawner_due s = is_to_fail (spawner_fails s) (spawner_calls s)

-- one call more
abbrev pub spawner_counted : MemorySpawner → MemorySpawner
spawner_counted s = record s { made = next_count s.made }

-- one call and one fault more
abbrev pub spawner_refused : MemorySpawner → MemorySpawner
spawner_refused s = record s { made = next_count s.made; faults = next_count s.faults }

-- a new spawner, with these names and answers, and whose calls with these numbers are to fail
pub record IsNewSpawner (names : List (List ℕ)) (answers : List Answer) (fails : List ℕ) (s : MemorySpawner) : Type 0 where
  pub names_are : memory_spawner_model.names s ≡ names
  pub answers_are : spawner_answers s ≡ answers
  pub runs : memory_spawner_model.runs s ≡ []
  pub calls : spawner_calls s ≡ 0
  pub fails_are : spawner_fails s ≡ fails
  pub faults : memory_spawner_model.faults s ≡ 0

-- a call is counted, it fails if it is named, and no other call fails
pub record IsCounted {A : Type 0} (old new : MemorySpawner) (result : Result A SpawnError) : Type 0 where
  pub named : spawner_due old ≡ true → (result ≡ Err Failed) × (new ≡ spawner_refused old)
  pub other : IsErrOf result Failed → spawner_due old ≡ true
  pub calls : spawner_calls new ≡ next_count (spawner_calls old)
  pub fails : spawner_fails new ≡ spawner_fails old
  pub answers : spawner_answers new ≡ spawner_answers old
  pub well : OnOk result (memory_spawner_model.faults new ≡ memory_spawner_model.faults old)
