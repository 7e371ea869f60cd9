-- Lines that are UTF-8, and lines that are not.
use Rattle.std.proofs.Common.{◌≡◌, ℕ, Bool, true, false, cond, List, Some, None, refl, sym, ap}
use Rattle.std.proofs.lemmas.Str.{IsUtf8-from_is_utf8, is_utf8-from_IsUtf8}
use Rattle.std.specs.Str.{IsUtf8, is_utf8}
use Rattle.tw_settings.specs.Settings.{uncommented, setting_of, setting_in}
use Rattle.tw_settings.specs.Reasons.{why_unset, why_refused}
use Rattle.tw_settings.specs.declared.reasons.Why.TheVariants as why

pub text_sets : (bs : List ℕ) → IsUtf8 bs → setting_of (uncommented bs) ≡ setting_in bs
unfolding setting_in
text_sets bs text = sym (ap (λ t. cond t (setting_of (uncommented bs)) None) (is_utf8-from_IsUtf8 bs text))

pub no_text_sets : (bs : List ℕ) → ¬ (IsUtf8 bs) → None ≡ setting_in bs
unfolding setting_in
no_text_sets bs none = by (is_utf8 bs) (λ e. none (IsUtf8-from_is_utf8 bs e))
  where
    by : (t : Bool) → (t ≡ true → ⊥) → None ≡ cond t (setting_of (uncommented bs)) None
    by true k = absurd (k refl)
    by false k = refl

pub text_reason : (bs : List ℕ) → IsUtf8 bs → why_unset (uncommented bs) ≡ why_refused bs
unfolding why_refused
text_reason bs text = sym (ap (λ t. cond t (why_unset (uncommented bs)) (Some why.NoText)) (is_utf8-from_IsUtf8 bs text))

pub no_text_reason : (bs : List ℕ) → ¬ (IsUtf8 bs) → Some why.NoText ≡ why_refused bs
unfolding why_refused
no_text_reason bs none = by (is_utf8 bs) (λ e. none (IsUtf8-from_is_utf8 bs e))
  where
    by : (t : Bool) → (t ≡ true → ⊥) → Some why.NoText ≡ cond t (why_unset (uncommented bs)) (Some why.NoText)
    by true k = absurd (k refl)
    by false k = refl
