-- A source in memory.
use Rattle.std.specs.Prelude.{◌≡◌, ℕ, Bool, List, true, drop}
use Rattle.tw_world.specs.Source.{SourceModel}
use Rattle.tw_world.specs.Calls.{is_to_fail, counted, failed}
use Rattle.tw_world.specs.declared.memory_source.MemorySource.{MemorySource}

-- the bytes that are still to be read
abbrev pub source_rest : MemorySource → List ℕ
source_rest s = drop s.at s.content.items

abbrev pub memory_source_model : SourceModel MemorySource
memory_source_model = record { faults = λ s. s.calls.faults; tells = λ s. true; rest = source_rest }

-- how many calls were made
abbrev pub source_calls : MemorySource → ℕ
source_calls s = s.calls.made

-- the numbers of the calls that are to fail
abbrev pub source_fails : MemorySource → List ℕ
source_fails s = s.calls.fails.items

-- a new source, that gives these bytes, and whose calls with these numbers are to fail
abbrev pub IsNewSource : (content fails : List ℕ) → MemorySource → Type 0
IsNewSource content fails s = (source_rest s ≡ content) × (source_calls s ≡ 0) × (source_fails s ≡ fails) × (memory_source_model.faults s ≡ 0)

-- is the next call one that is to fail?
abbrev pub source_due : MemorySource → Bool
source_due s = is_to_fail (source_fails s) (source_calls s)

-- only the count of calls and that of faults went up
abbrev pub SourceRefused : MemorySource → MemorySource → Type 0
SourceRefused old new = new ≡ record old { calls = failed (counted old.calls) }
