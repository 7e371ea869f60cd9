-- What is said of a result.
use Rattle.std.proofs.Common.{◌≡◌, true, false, Result, Ok, Err, OnOk, OnErr, is_err, sym}
use Rattle.std.specs.Result.{IfErr}
use Rattle.std.proofs.lemmas.Bool.{true≢false}

pub if_err_weaker : {X E : Type 0} {P Q : E → Type 0} (r : Result X E) → IfErr r P → ((e : E) → P e → Q e) → IfErr r Q
if_err_weaker (Ok x) p f = tt
if_err_weaker (Err e) p f = f e p

pub both_on_ok : {X E A B Q : Type 0} (r : Result X E) → OnOk r A → OnOk r B → (A → B → Q) → OnOk r Q
both_on_ok (Ok x) a b f = f a b
both_on_ok (Err e) a b f = tt

pub on_ok_weaker : {X E A Q : Type 0} (r : Result X E) → OnOk r A → (A → Q) → OnOk r Q
on_ok_weaker (Ok x) a f = f a
on_ok_weaker (Err e) a f = tt

pub on_err_there : {A E : Type 0} (r : Result A E) (P : Type 0) → is_err r ≡ true → OnErr r P → P
on_err_there (Ok x) P e p = absurd (true≢false (sym e))
on_err_there (Err x) P e p = p

pub on_ok_there : {A E : Type 0} (r : Result A E) (P : Type 0) → is_err r ≡ false → OnOk r P → P
on_ok_there (Ok x) P e p = p
on_ok_there (Err x) P e p = absurd (true≢false e)
