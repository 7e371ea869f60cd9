-- A writer as a sink. It tells nothing of what it got.
use Rattle.std.specs.Prelude.{[], false}
use Rattle.tw_world.specs.Sink.{SinkModel}
use Rattle.tw_streams.specs.declared.stream.Stream.{Stream}

abbrev pub stream_model : {W : Type 0} → SinkModel (Stream W)
stream_model = record { faults = λ s. s.faults; tells = λ s. false; held = λ s. [] }
