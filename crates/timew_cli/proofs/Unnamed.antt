-- Causes whose line has no name of a file.
use Rattle.std.proofs.Common.{◌≡◌, ℕ, List, refl}
use Rattle.timew_cli.specs.Fault.{IsShort}
use Rattle.timew_cli.specs.declared.cause.Cause.{Cause}
use Rattle.timew_cli.specs.declared.cause.Cause.TheVariants.{Edited, BadLine}

pub is_short : (cause : Cause) → ((file : List ℕ) → cause ≡ Edited file → ⊥) → ((file : List ℕ) (line : ℕ) → cause ≡ BadLine file line → ⊥) → IsShort cause
is_short (Edited file) no_edit other = absurd (no_edit file refl)
is_short (BadLine file line) no_edit other = absurd (other file line refl)
is_short _ no_edit other = tt
