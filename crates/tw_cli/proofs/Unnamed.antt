-- Causes whose line has no name of the input, of a hook or of a file.
use Rattle.std.proofs.Common.{◌≡◌, ℕ, List, refl}
use Rattle.tw_cli.specs.Fault.{IsShort}
use Rattle.tw_cli.specs.declared.cause.Cause.{Cause}
use Rattle.tw_cli.specs.declared.cause.Cause.TheVariants.{BadInput, HookRefused, HookAnswer, TrackBad}

pub is_short : (cause : Cause) → ((index : ℕ) (name : List ℕ) → cause ≡ BadInput index name → ⊥) → ((name : List ℕ) (status : ℕ) → cause ≡ HookRefused name status → ⊥)
    → ((name : List ℕ) → cause ≡ HookAnswer name → ⊥) → ((file : List ℕ) (line : ℕ) → cause ≡ TrackBad file line → ⊥) → IsShort cause
is_short (BadInput index name) other refused answer bad = absurd (other index name refl)
is_short (HookRefused name status) other refused answer bad = absurd (refused name status refl)
is_short (HookAnswer name) other refused answer bad = absurd (answer name refl)
is_short (TrackBad file line) other refused answer bad = absurd (bad file line refl)
is_short _ other refused answer bad = tt
