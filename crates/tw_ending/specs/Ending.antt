-- How a run ends.
use Rattle.std.specs.Prelude.{◌≡◌, ◌⊎◌, ℕ, List}
use Rattle.tw_world.specs.Disk.{Rose}
use Rattle.tw_world.specs.Sink.{SinkModel, Got, GotPart}

pub data End : Type 0 where
  -- it was carried out and printed
  Well : End
  -- it was carried out, and the output failed
  Output : End
  -- it was not carried out
  Failed : End

-- the output did not fail
abbrev pub HasNotFailed : {O : Type 0} → SinkModel O → (o0 o1 : O) → Type 0
HasNotFailed s o0 o1 = Rose (s.faults o0) (s.faults o1) → ⊥

-- a text was printed and the run is done, or the output failed and got a front part of it
abbrev pub EndsPrinting : {O C : Type 0} → SinkModel O → (o0 o1 : O) → List ℕ → (done fault cause : C) → Type 0
EndsPrinting s o0 o1 text done fault cause = ((cause ≡ done) × Got s o0 o1 text) ⊎ ((cause ≡ fault) × GotPart s o0 o1 text × Rose (s.faults o0) (s.faults o1))
