-- What is read of a body is what spells it.
use Rattle.std.specs.Prelude.{◌≡◌, ◌<◌, ◌^◌, List, ℕ, length, Some}
use Rattle.tw_bodies.specs.Body.{Step, body_of, IsStep}
use Rattle.tw_bodies.specs.Reading.{step_of}
use Rattle.tw_world.specs.Bytes.{IsBytes}

-- bytes that are read as a step are the bytes of that step, so no two bodies hold the same step, and the step is of the program
abbrev pub ReadIsSpelled : Type 0
ReadIsSpelled = (body : List ℕ) (step : Step) → IsBytes body → step_of body ≡ Some step → (body ≡ body_of step) × IsStep step

-- the bytes that spell a step of the program are read as that step, if four bytes can say their length
abbrev pub WrittenIsRead : Type 0
WrittenIsRead = (step : Step) → IsStep step → length (body_of step) < 2 ^ 32 → step_of (body_of step) ≡ Some step
