-- The lines that are made without memory, and what a sink got of them.
use Rattle.std.specs.Prelude.{◌≡◌, ◌⊎◌, ℕ, List, [], ◌∷◌, ◌++◌}
use Rattle.std.specs.Fmt.{decimal}
use Rattle.tw_world.specs.Disk.{Rose}
use Rattle.tw_world.specs.Sink.{SinkModel, Got, GotPart}

-- a number between two texts
abbrev pub numbered : List ℕ → ℕ → List ℕ → List ℕ
numbered front n back = front ++ decimal n ++ back

-- a line was written to a sink, or the sink failed and got a front part of it
abbrev pub GotLine : {E : Type 0} → SinkModel E → (e0 e1 : E) → List ℕ → Type 0
GotLine s e0 e1 line = Got s e0 e1 line ⊎ (Rose (s.faults e0) (s.faults e1) × GotPart s e0 e1 line)

-- a line was written, if it is not empty
abbrev pub GotAny : {E : Type 0} → SinkModel E → (e0 e1 : E) → List ℕ → Type 0
GotAny s e0 e1 [] = e1 ≡ e0
GotAny s e0 e1 (b ∷ bs) = GotLine s e0 e1 (b ∷ bs)
