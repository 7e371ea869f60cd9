-- What a command takes of its input.
use Rattle.std.specs.Prelude.{◌≡◌, ◌<◌, ◌≤◌, ◌+◌, ◌++◌, ℕ, List, [], length, drop}
use Rattle.tw_world.specs.Disk.{Rose}
use Rattle.tw_world.specs.Source.{SourceModel, SourceKept, TellsRest}
use Rattle.tw_words.specs.declared.command.Command.{Command}
use Rattle.tw_words.specs.declared.command.Command.TheVariants.{Import}
use Rattle.tw_changes.specs.declared.request.Request.{Request}
use Rattle.tw_cli.specs.declared.input.InputError.{InputError}
use Rattle.tw_cli.specs.declared.input.InputError.TheVariants.{Fault, TooLong, Memory}

-- the most bytes of an input
abbrev pub max_input : ℕ
max_input = 67108864

-- a request with this input
abbrev pub with_input : Request → List ℕ → Request
with_input request bytes = record request { input = bytes }

-- so many bytes were read and put after others: none only at the end
pub record ReadMore {S : Type 0} (m : SourceModel S) (i0 i1 : S) (before after : List ℕ) (count : ℕ) : Type 0 where
  pub longer : length after ≡ length before + count
  pub all : TellsRest m i0 → after ++ m.rest i1 ≡ before ++ m.rest i0
  pub end : TellsRest m i0 → count ≡ 0 → m.rest i1 ≡ []

-- why no bytes were put after others
abbrev pub NotReadMore : {S : Type 0} → SourceModel S → (i0 i1 : S) → InputError → Type 0
NotReadMore m i0 i1 Fault = Rose (m.faults i0) (m.faults i1)
NotReadMore m i0 i1 TooLong = ⊥
NotReadMore m i0 i1 Memory = Unit {0}

-- all that a source held was read
pub record ReadAll {S : Type 0} (m : SourceModel S) (i0 i1 : S) (bytes : List ℕ) : Type 0 where
  pub all : TellsRest m i0 → (bytes ≡ m.rest i0) × (m.rest i1 ≡ [])
  pub fits : length bytes ≤ max_input

-- `import` reads its input to the end, and every other command leaves it as it was
abbrev pub Took : {S : Type 0} → SourceModel S → Command → (i0 i1 : S) → List ℕ → Type 0
Took m Import i0 i1 bytes = ReadAll m i0 i1 bytes
Took m other i0 i1 bytes = (bytes ≡ []) × (i1 ≡ i0)

-- why an input is not read. Of one that is too long so many bytes and one more were read
abbrev pub NotRead : {S : Type 0} → SourceModel S → (i0 i1 : S) → InputError → Type 0
NotRead m i0 i1 Fault = Rose (m.faults i0) (m.faults i1)
NotRead m i0 i1 TooLong = TellsRest m i0 → (max_input < length (m.rest i0)) × (m.rest i1 ≡ drop (max_input + 1) (m.rest i0))
NotRead m i0 i1 Memory = Unit {0}

-- why the input of a command is not taken
abbrev pub NotTaken : {S : Type 0} → SourceModel S → Command → (i0 i1 : S) → InputError → Type 0
NotTaken m Import i0 i1 error = NotRead m i0 i1 error
NotTaken m other i0 i1 error = ⊥

-- a source has these bytes, no more than may be read, and does not fail
pub record HasInput {S : Type 0} (m : SourceModel S) (i0 i1 : S) (bytes : List ℕ) : Type 0 where
  pub tells : TellsRest m i0
  pub is : bytes ≡ m.rest i0
  pub fits : length bytes ≤ max_input
  pub well : Rose (m.faults i0) (m.faults i1) → ⊥

-- a premise under which these bytes are the input of a command
abbrev pub CanTake : {S : Type 0} → SourceModel S → Command → (i0 i1 : S) → List ℕ → Type 0
CanTake m Import i0 i1 bytes = HasInput m i0 i1 bytes
CanTake m other i0 i1 bytes = bytes ≡ []

-- only `import` uses the input
abbrev pub IsInputKept : {S : Type 0} → SourceModel S → Command → (i0 i1 : S) → Type 0
IsInputKept m Import i0 i1 = SourceKept m i0 i1
IsInputKept m other i0 i1 = i1 ≡ i0

-- some input was taken, and this holds of the request with it
abbrev pub WithInput : {S : Type 0} → SourceModel S → Request → (i0 i1 : S) → (Request → Type 0) → Type 0
WithInput m request i0 i1 P = (bytes : List ℕ) × Took m request.command i0 i1 bytes × P (with_input request bytes)
