-- Bytes that are text, and bytes that are none.
use Rattle.std.proofs.Common.{◌≡◌, ℕ, Bool, true, false, cond, List, [], refl, sym, ap}
use Rattle.std.proofs.lemmas.Str.{IsUtf8-from_is_utf8, is_utf8-from_IsUtf8}
use Rattle.std.specs.Str.{IsUtf8, is_utf8}
use Rattle.tw_hints.specs.Settings.{text_in}

pub text_same : (bs : List ℕ) → IsUtf8 bs → bs ≡ text_in bs
text_same bs text = sym (ap (λ t. cond t bs []) (is_utf8-from_IsUtf8 bs text))

pub no_text : (bs : List ℕ) → ¬ (IsUtf8 bs) → [] ≡ text_in bs
no_text bs none = by (is_utf8 bs) (λ e. none (IsUtf8-from_is_utf8 bs e))
  where
    by : (t : Bool) → (t ≡ true → ⊥) → [] ≡ cond t bs []
    by true k = absurd (k refl)
    by false k = refl
