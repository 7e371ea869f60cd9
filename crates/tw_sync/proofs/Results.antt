-- The last thing heard, and results that are handed on.
use Rattle.std.proofs.Common.{◌≡◌, List, [], ◌∷◌, ◌++◌, Result, Ok, Err, refl, sym, subst}
use Rattle.std.specs.Result.{OnOk, IfOk, IfErr, IsErrAnd}
use Rattle.tw_sync.specs.Replies.Heard.{Heard}
use Rattle.tw_sync.specs.Ends.Refused.{EndedBy}

pub ended_by : (hs : List Heard) (h : Heard) (P : Heard → Type 0) → P h → EndedBy (hs ++ h ∷ []) P
ended_by hs h P p = (h, record { earlier = hs; split = refl }, p)

-- an error that is handed on
pub passed_on : {T E : Type 0} (r : Result T E) (e : E) (P : E → Type 0) → IsErrAnd r (λ x. x ≡ e) → P e → IfErr r P
passed_on (Ok v) e P is has = tt
passed_on (Err x) e P is has = subst P (sym is) has

pub not_done : {T E : Type 0} (r : Result T E) (Q : E → Type 0) (P : T → Type 0) → IsErrAnd r Q → IfOk r P
not_done (Ok v) Q P is = absurd is
not_done (Err x) Q P is = tt

-- what holds whether it is one or the other
pub either : {T E P : Type 0} (r : Result T E) → OnOk r P → IfErr r (λ e. P) → P
either (Ok v) p q = p
either (Err x) p q = q

-- what holds of a result says more of it
pub on_ok : {T E P Q : Type 0} (r : Result T E) → OnOk r P → (P → Q) → OnOk r Q
on_ok (Ok v) p f = f p
on_ok (Err x) p f = tt

-- three facts of a result say another
pub all_on_ok : {T E P Q R S : Type 0} (r : Result T E) → OnOk r P → OnOk r Q → OnOk r R → (P → Q → R → S) → OnOk r S
all_on_ok (Ok v) p q s f = f p q s
all_on_ok (Err x) p q s f = tt

pub if_ok : {T E : Type 0} {P Q : T → Type 0} (r : Result T E) → IfOk r P → ((v : T) → P v → Q v) → IfOk r Q
if_ok (Ok v) p f = f v p
if_ok (Err x) p f = tt

pub if_err : {T E : Type 0} {P Q : E → Type 0} (r : Result T E) → IfErr r P → ((x : E) → P x → Q x) → IfErr r Q
if_err (Ok v) p f = tt
if_err (Err x) p f = f x p
