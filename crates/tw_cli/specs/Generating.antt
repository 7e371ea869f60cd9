-- What a run of `_generate` gives, by the cause that it ends with.
use Rattle.std.specs.Prelude.{◌≡◌, ℕ, List}
use Rattle.tw_world.specs.Disk.{Rose}
use Rattle.tw_world.specs.Sink.{SinkModel, Got, GotPart}
use Rattle.tw_words.specs.Lines.{Parts}
use Rattle.tw_settings.specs.Settings.{Pair}
use Rattle.tw_words.specs.Faults.{number_behind}
use Rattle.tw_settings.specs.Weights.{weights}
use Rattle.tw_generate.specs.Generated.{IsGenerated}
use Rattle.tw_ending.specs.Ending.{End}
use Rattle.tw_ending.specs.Ending.End.{Well, Output, Failed}
use Rattle.tw_cli.specs.Cause.{end_of}
use Rattle.tw_cli.specs.declared.cause.Cause.{Cause}
use Rattle.tw_cli.specs.declared.cause.Cause.TheVariants.{Memory}

-- the text of a world as large as the words of a line say, exported with the weights of the settings
abbrev pub GeneratedBy : Parts → (settings : List Pair) → List ℕ → Type 0
GeneratedBy line settings text = IsGenerated (number_behind line 0) (number_behind line 1) (weights settings) text

abbrev pub GenerateGivesBy : {O : Type 0} → SinkModel O → Parts → (settings : List Pair) → (o0 o1 : O) → Cause → End → Type 0
GenerateGivesBy s line settings o0 o1 cause Well = (text : List ℕ) × GeneratedBy line settings text × Got s o0 o1 text
GenerateGivesBy s line settings o0 o1 cause Output =
    ((text : List ℕ) × GeneratedBy line settings text × GotPart s o0 o1 text) × Rose (s.faults o0) (s.faults o1)
GenerateGivesBy s line settings o0 o1 cause Failed = (cause ≡ Memory) × (o1 ≡ o0)

abbrev pub GenerateGives : {O : Type 0} → SinkModel O → Parts → (settings : List Pair) → (o0 o1 : O) → Cause → Type 0
GenerateGives s line settings o0 o1 cause = GenerateGivesBy s line settings o0 o1 cause (end_of cause)
