-- What is known of the input that a command takes.
use Rattle.std.proofs.Common.{◌≡◌, ◌∙◌, ◌<◌, ◌≤◌, refl, ap, sym, arith, length, List, ℕ}
use Rattle.tw_world.specs.Source.{SourceModel}
use Rattle.tw_words.specs.declared.command.Command.{Command}
use Rattle.tw_words.specs.declared.command.Command.TheVariants.{Import}
use Rattle.tw_cli.specs.Cause.{input_cause}
use Rattle.tw_cli.specs.Input.{Took, NotRead, NotTaken, HasInput, CanTake, IsInputKept}
use Rattle.tw_cli.specs.declared.input.InputError.{InputError}
use Rattle.tw_cli.specs.declared.input.InputError.TheVariants.{Fault, TooLong, Memory}
use Rattle.tw_cli.specs.declared.cause.Cause.TheVariants as causes

module _ {S : Type 0} (m : SourceModel S) where
  -- an input that is left alone is kept
  pub input_same : (command : Command) (i : S) → IsInputKept m command i i
  input_same Import i = record { faults = omega arith; tells = refl }
  input_same _ i = refl

  module _ (i0 i1 : S) where
    -- what was taken is what can be taken
    pub took_same : (command : Command) (a b : List ℕ) → Took m command i0 i1 a → CanTake m command i0 i1 b → a ≡ b
    took_same Import a b took can = (took.all can.tells).0 ∙ sym can.is
    took_same _ a b took can = took.0 ∙ sym can

    reading_wants : (e : InputError) (b : List ℕ) → NotRead m i0 i1 e → HasInput m i0 i1 b → input_cause e ≡ causes.Memory
    reading_wants Fault b why can = absurd (can.well why)
    reading_wants TooLong b why can = absurd (too_many (why can.tells).0 can.is can.fits)
      where
        too_many : 67108864 < length (m.rest i0) → b ≡ m.rest i0 → length b ≤ 67108864 → ⊥
        too_many above is fits = let same : length b ≡ length (m.rest i0) = ap length is in omega (arith, above, same, fits)
    reading_wants Memory b why can = refl

    -- an input that can be taken is not, for want of memory
    pub taking_wants : (command : Command) (e : InputError) (b : List ℕ) → NotTaken m command i0 i1 e → CanTake m command i0 i1 b → input_cause e ≡ causes.Memory
    taking_wants Import e b why can = reading_wants e b why can
    taking_wants _ e b why can = absurd why
