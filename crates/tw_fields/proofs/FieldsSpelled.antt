-- Fields that are read of bytes are what spells them.
use Rattle.std.proofs.Common.{◌≡◌, ℕ, zero, suc, ◌+◌, ◌<◌, ◌≤◌, Bool, true, false, cond, T, List, [], ◌∷◌, ◌++◌, length, take, drop, get_or, Option, Some, None, refl, sym, ap, subst, ◌∙◌, append_assoc, arith}
use Rattle.std.specs.Prelude.{IfSome, nat_lt, ◌==◌}
use Rattle.std.specs.List.{flat_map, AllByRecursion}
use Rattle.std.specs.Int.{Width, w32, w64, byte_len, from_be_bytes, to_be_bytes}
use Rattle.std.proofs.lemmas.Bool.{ltb-false, eqb-true}
use Rattle.std.proofs.lemmas.List.{take-append-drop, length-take-le, get_or-drop}
use Rattle.std.proofs.lemmas.List.Concat.{flat_map-cons}
use Rattle.std.proofs.lemmas.Nat.{be_bytes_4, be_bytes_8}
use Rattle.std.proofs.lemmas.Option.{same_Some, cond_some}
use Rattle.tw_world.specs.declared.Moment.{Moment}
use Rattle.tw_world.specs.declared.moment.TheConstants.{MOMENT_LIMIT}
use Rattle.tw_world.specs.Moment.{moment_if, moment_of}
use Rattle.tw_fields.specs.Fields.{text_bytes, option_bytes, moment_bytes, IsText, IsUuid}
use Rattle.tw_fields.specs.Reading.{◌>>=◌, number_at, text_at, option_at, moment_at, uuid_at, many_at}

-- ---- options

pub bind_some : {A B : Type 0} (r : Option A) (f : A → Option B) (y : B) → (r >>= f) ≡ Some y → (x : A) × (r ≡ Some x) × (f x ≡ Some y)
bind_some (Some x) f y e = (x, refl, e)
bind_some None f y e = absurd cc

unless_some : {A : Type 0} (b : Bool) (x : Option A) (y : A) → cond b None x ≡ Some y → (b ≡ false) × (x ≡ Some y)
unless_some true x y e = absurd cc
unless_some false x y e = (refl, e)

-- ---- bytes

-- each number is a byte
abbrev pub AreBytes : List ℕ → Type 0
AreBytes bytes = (i : ℕ) → get_or bytes i 0 < 256

pub bytes_tail : (b : ℕ) (bytes : List ℕ) → AreBytes (b ∷ bytes) → AreBytes bytes
bytes_tail b bytes are i = are (suc i)

bytes_take : (n : ℕ) (bytes : List ℕ) → AreBytes bytes → AreBytes (take n bytes)
bytes_take zero bytes are i = omega arith
bytes_take (suc n) [] are i = are i
bytes_take (suc n) (b ∷ bytes) are zero = are zero
bytes_take (suc n) (b ∷ bytes) are (suc i) = bytes_take n bytes (bytes_tail b bytes are) i

bytes_drop : (n : ℕ) (bytes : List ℕ) → AreBytes bytes → AreBytes (drop n bytes)
bytes_drop n bytes are i = omega (arith, get_or-drop n bytes i 0, are (n + i))

pub none_left : (bytes : List ℕ) → (length bytes == 0) ≡ true → bytes ≡ []
none_left [] e = refl
none_left (b ∷ bytes) e = absurd (omega (arith, eqb-true (length (b ∷ bytes)) 0 e))

-- what was read of bytes spells those before the rest, and fits
abbrev pub Spells : {A : Type 0} → (A → List ℕ) → (A → Type 0) → List ℕ → A × List ℕ → Type 0
Spells spell P bytes r = (bytes ≡ spell r.0 ++ r.1) × P r.0 × AreBytes r.1

abbrev pub Any : {A : Type 0} → A → Type 0
Any x = Unit {0}

-- a reader reads what spells a value that fits
abbrev pub Reads : {A : Type 0} → (List ℕ → Option (A × List ℕ)) → (A → List ℕ) → (A → Type 0) → Type 0
Reads {A = A} read spell P = (bytes : List ℕ) (r : A × List ℕ) → AreBytes bytes → read bytes ≡ Some r → Spells spell P bytes r

-- a field is read, and then what follows it
pub then_spelled : {A B : Type 0} (field : List ℕ → Option (A × List ℕ)) (spell : A → List ℕ) (P : A → Type 0) → Reads field spell P
    → (next : A × List ℕ → Option B) (bytes : List ℕ) (r : B) (Goal : List ℕ → Type 0) → AreBytes bytes → (field bytes >>= next) ≡ Some r
    → ((t : A × List ℕ) → P t.0 → AreBytes t.1 → next t ≡ Some r → Goal (spell t.0 ++ t.1)) → Goal bytes
then_spelled field spell P field_spelled next bytes r Goal are e rest =
    let t = bind_some (field bytes) next r e in
    let f = field_spelled bytes t.0 are t.1 in
    subst Goal (sym f.0) (rest t.0 f.1 f.2 t.2)

-- all fields are read
pub all_spelled : {A : Type 0} (spell : A → List ℕ) (P : A → Type 0) (bytes : List ℕ) (x : A) (rest : List ℕ) (r : A × List ℕ) → bytes ≡ spell x ++ rest → P x → AreBytes rest → Some (x, rest) ≡ Some r → Spells spell P bytes r
all_spelled spell P bytes x rest r spelled fits are e = subst (Spells spell P bytes) (same_Some _ r e) (spelled, fits, are)

number_spelled : (w : Width) (again : (bytes : List ℕ) (n : ℕ) → length bytes ≡ byte_len w → AreBytes bytes → n ≡ from_be_bytes w bytes → to_be_bytes w n ≡ bytes)
    (bytes : List ℕ) (r : ℕ × List ℕ) → AreBytes bytes → number_at w bytes ≡ Some r → Spells (to_be_bytes w) Any bytes r
number_spelled w again bytes r are e =
    let front = take (byte_len w) bytes in
    let rest = drop (byte_len w) bytes in
    let u = unless_some _ _ r e in
    let long : byte_len w ≤ length bytes = ltb-false _ _ u.0 in
    let spelled : to_be_bytes w (from_be_bytes w front) ≡ front = again front _ (length-take-le (byte_len w) bytes long) (bytes_take (byte_len w) bytes are) refl in
    let here : Spells (to_be_bytes w) Any bytes (from_be_bytes w front, rest) = (sym (take-append-drop (byte_len w) bytes) ∙ ap (λ (l : List ℕ). l ++ rest) (sym spelled), tt, bytes_drop (byte_len w) bytes are) in
    subst (Spells (to_be_bytes w) Any bytes) (same_Some _ r u.1) here

pub four_spelled : (bytes : List ℕ) (r : ℕ × List ℕ) → AreBytes bytes → number_at w32 bytes ≡ Some r → Spells (to_be_bytes w32) Any bytes r
four_spelled = number_spelled w32 (λ bytes n size are e. be_bytes_4 bytes n size are e)

eight_spelled : (bytes : List ℕ) (r : ℕ × List ℕ) → AreBytes bytes → number_at w64 bytes ≡ Some r → Spells (to_be_bytes w64) Any bytes r
eight_spelled = number_spelled w64 (λ bytes n size are e. be_bytes_8 bytes n size are e)

pub text_spelled : (bytes : List ℕ) (r : List ℕ × List ℕ) → AreBytes bytes → text_at bytes ≡ Some r → Spells text_bytes IsText bytes r
unfolding text_at
text_spelled bytes r are e =
    let n = bind_some _ _ r e in
    let s = four_spelled bytes n.0 are n.1 in
    let u = unless_some _ _ r n.2 in
    let long : n.0.0 ≤ length n.0.1 = ltb-false _ _ u.0 in
    let t = bind_some _ _ r u.1 in
    let front = take n.0.0 n.0.1 in
    let rest = drop n.0.0 n.0.1 in
    let w = cond_some _ _ t.0 t.1 in
    let size : length front ≡ n.0.0 = length-take-le n.0.0 n.0.1 long in
    let spelled : bytes ≡ text_bytes front ++ rest =
    s.0 ∙ ap (λ (l : List ℕ). to_be_bytes w32 n.0.0 ++ l) (sym (take-append-drop n.0.0 n.0.1)) ∙ sym (append_assoc (to_be_bytes w32 n.0.0) front rest) ∙ ap (λ (k : ℕ). (to_be_bytes w32 k ++ front) ++ rest) (sym size) in
    let here : Spells text_bytes IsText bytes (front, rest) = (spelled, w.0, bytes_drop n.0.0 n.0.1 s.2) in
    subst (Spells text_bytes IsText bytes) (ap (λ (text : List ℕ). let p : List ℕ × List ℕ = (text, rest) in p) w.1 ∙ same_Some _ r t.2) here

abbrev pub IsTextIfAny : Option (List ℕ) → Type 0
IsTextIfAny o = IfSome o IsText

pub option_spelled : (bytes : List ℕ) (r : Option (List ℕ) × List ℕ) → AreBytes bytes → option_at bytes ≡ Some r → Spells option_bytes IsTextIfAny bytes r
unfolding option_at
option_spelled [] r are e = absurd cc
option_spelled (zero ∷ rest) r are e =
    let here : Spells option_bytes IsTextIfAny (zero ∷ rest) (None, rest) = (refl, tt, bytes_tail zero rest are) in
    subst (Spells option_bytes IsTextIfAny (zero ∷ rest)) (same_Some _ r e) here
option_spelled (suc zero ∷ rest) r are e =
    let t = bind_some _ _ r e in
    let s = text_spelled rest t.0 (bytes_tail 1 rest are) t.1 in
    let here : Spells option_bytes IsTextIfAny (1 ∷ rest) (Some t.0.0, t.0.1) = (ap (λ (l : List ℕ). 1 ∷ l) s.0, s.1, s.2) in
    subst (Spells option_bytes IsTextIfAny (1 ∷ rest)) (same_Some _ r t.2) here
option_spelled (suc (suc b) ∷ rest) r are e = absurd cc

numbers_made : (seconds nanos : ℕ) (years second : Bool) (p : nat_lt seconds MOMENT_LIMIT ≡ years) (q : nat_lt nanos 1000000000 ≡ second) (at : Moment) → moment_if seconds nanos years second p q ≡ Some at → (at.seconds ≡ seconds) × (at.nanos ≡ nanos)
unfolding moment_if
numbers_made seconds nanos true true p q at e =
    let back : at ≡ _ = sym (same_Some _ at e) in
    (ap (λ (m : Moment). m.seconds) back, ap (λ (m : Moment). m.nanos) back)
numbers_made seconds nanos true false p q at e = absurd cc
numbers_made seconds nanos false second p q at e = absurd cc

numbers_of : (seconds nanos : ℕ) (at : Moment) → moment_of seconds nanos ≡ Some at → (at.seconds ≡ seconds) × (at.nanos ≡ nanos)
unfolding moment_of
numbers_of seconds nanos at e = numbers_made seconds nanos _ _ refl refl at e

pub moment_spelled : (bytes : List ℕ) (r : Moment × List ℕ) → AreBytes bytes → moment_at bytes ≡ Some r → Spells moment_bytes Any bytes r
unfolding moment_at
moment_spelled bytes r are e =
    let s = bind_some _ _ r e in
    let n = bind_some _ _ r s.2 in
    let m = bind_some _ _ r n.2 in
    let seconds = eight_spelled bytes s.0 are s.1 in
    let nanos = four_spelled s.0.1 n.0 seconds.2 n.1 in
    let same = numbers_of s.0.0 n.0.0 m.0 m.1 in
    let spelled : bytes ≡ moment_bytes m.0 ++ n.0.1 =
    seconds.0 ∙ ap (λ (l : List ℕ). to_be_bytes w64 s.0.0 ++ l) nanos.0 ∙ sym (append_assoc (to_be_bytes w64 s.0.0) (to_be_bytes w32 n.0.0) n.0.1)
    ∙ ap (λ (k : ℕ). (to_be_bytes w64 k ++ to_be_bytes w32 n.0.0) ++ n.0.1) (sym same.0) ∙ ap (λ (k : ℕ). (to_be_bytes w64 m.0.seconds ++ to_be_bytes w32 k) ++ n.0.1) (sym same.1) in
    let here : Spells moment_bytes Any bytes (m.0, n.0.1) = (spelled, tt, nanos.2) in
    subst (Spells moment_bytes Any bytes) (same_Some _ r m.2) here

abbrev pub itself : List ℕ → List ℕ
itself u = u

pub uuid_spelled : (bytes : List ℕ) (r : List ℕ × List ℕ) → AreBytes bytes → uuid_at bytes ≡ Some r → Spells itself IsUuid bytes r
uuid_spelled bytes r are e =
    let u = unless_some _ _ r e in
    let long : 16 ≤ length bytes = ltb-false _ _ u.0 in
    let here : Spells itself IsUuid bytes (take 16 bytes, drop 16 bytes) = (sym (take-append-drop 16 bytes), length-take-le 16 bytes long, bytes_drop 16 bytes are) in
    subst (Spells itself IsUuid bytes) (same_Some _ r u.1) here

-- ---- one after another

module _ {A : Type 0} (one : List ℕ → Option (A × List ℕ)) (spell : A → List ℕ) (P : A → Type 0) (one_spelled : (bytes : List ℕ) (r : A × List ℕ) → AreBytes bytes → one bytes ≡ Some r → Spells spell P bytes r) where
  abbrev pub AreSo : ℕ → List A → Type 0
  AreSo n xs = AllByRecursion P xs × (length xs ≡ n)

  pub many_spelled : (n : ℕ) (bytes : List ℕ) (r : List A × List ℕ) → AreBytes bytes → many_at one n bytes ≡ Some r → Spells (flat_map spell) (AreSo n) bytes r
  unfolding many_at
  many_spelled zero bytes r are e =
      let here : Spells (flat_map spell) (AreSo zero) bytes ([], bytes) = (refl, (tt, refl), are) in
      subst (Spells (flat_map spell) (AreSo zero) bytes) (same_Some _ r e) here
  many_spelled (suc n) bytes r are e =
      let f = bind_some _ _ r e in
      let o = bind_some _ _ r f.2 in
      let first = one_spelled bytes f.0 are f.1 in
      let others = many_spelled n f.0.1 o.0 first.2 o.1 in
      let xs = f.0.0 ∷ o.0.0 in
      let spelled : bytes ≡ flat_map spell xs ++ o.0.1 =
      first.0 ∙ ap (λ (l : List ℕ). spell f.0.0 ++ l) others.0 ∙ sym (append_assoc (spell f.0.0) (flat_map spell o.0.0) o.0.1) ∙ ap (λ (l : List ℕ). l ++ o.0.1) (sym (flat_map-cons spell f.0.0 o.0.0)) in
      let here : Spells (flat_map spell) (AreSo (suc n)) bytes (xs, o.0.1) = (spelled, ((first.1, others.1.0), ap suc others.1.1), others.2) in
      subst (Spells (flat_map spell) (AreSo (suc n)) bytes) (same_Some _ r o.2) here

pub true_held : (b : Bool) → b ≡ true → T b
true_held true e = tt
true_held false e = absurd cc
