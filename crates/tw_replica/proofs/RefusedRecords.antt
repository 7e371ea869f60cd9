-- A record that is refused leaves what is held as it was.
use Rattle.std.proofs.Common.{◌≡◌, true, Result, Ok, Err, OnOk}
use Rattle.std.specs.Prelude.{IfErr}
use Rattle.tw_state.specs.State.{State, is_sound}
use Rattle.tw_state.proofs.Soundness.{stays_sound}

-- so what is held is sound, if that which a written one leads to is
pub kept_sound : {A E : Type 0} (r : Result A E) (W : E → Type 0) (old new : State) → is_sound old ≡ true → OnOk r (is_sound new ≡ true) → IfErr r (λ e. W e × (new ≡ old)) → is_sound new ≡ true
kept_sound (Ok a) W old new is ok err = ok
kept_sound (Err e) W old new is ok err = stays_sound old new err.1 is
