-- A reader as a source. It tells nothing of what it gives.
use Rattle.std.specs.Prelude.{[], false}
use Rattle.tw_world.specs.Source.{SourceModel}
use Rattle.tw_streams.specs.declared.source.StreamSource.{StreamSource}

abbrev pub source_model : {R : Type 0} → SourceModel (StreamSource R)
source_model = record { faults = λ s. s.faults; tells = λ s. false; rest = λ s. [] }
