-- What was written of fields is read again.
use Rattle.std.proofs.Common.{◌≡◌, ℕ, suc, ◌+◌, ◌^◌, ◌<◌, ◌≤◌, Bool, true, false, cond, ltb, T, List, [], ◌∷◌, ◌++◌, length, Option, Some, None, refl, ap, ◌∙◌, append_assoc, arith}
use Rattle.std.specs.Prelude.{IfSome}
use Rattle.std.specs.List.{flat_map, AllByRecursion}
use Rattle.std.specs.Int.{Width, w32, w64, byte_len, from_be_bytes, to_be_bytes}
use Rattle.std.proofs.lemmas.Bool.{le-ltb}
use Rattle.std.proofs.lemmas.List.{take_at, drop_at, length-append}
use Rattle.std.proofs.lemmas.List.Concat.{flat_map-cons}
use Rattle.std.proofs.lemmas.Nat.{from_be_bytes-to_be_bytes_4, from_be_bytes-to_be_bytes_8}
use Rattle.tw_world.specs.declared.Moment.{Moment}
use Rattle.tw_world.proofs.Range.{moment_of-numbers}
use Rattle.tw_fields.specs.Fields.{text_bytes, option_bytes, moment_bytes, IsText, IsUuid}
use Rattle.tw_fields.specs.Reading.{◌>>=◌, number_at, utf8_of, text_at, option_at, moment_at, uuid_at, many_at}

-- a field is read of what was written of it with others after it, and then these are
pub then_again : {A B : Type 0} (field : List ℕ → Option (A × List ℕ)) (next : A × List ℕ → Option B) (front more rest : List ℕ) (x : A) (r : B) → length (front ++ more) < 2 ^ 32
    → (length front < 2 ^ 32 → field (front ++ (more ++ rest)) ≡ Some (x, more ++ rest)) → (length more < 2 ^ 32 → next (x, more ++ rest) ≡ Some r) → (field ((front ++ more) ++ rest) >>= next) ≡ Some r
then_again field next front more rest x r lt first others =
    let sum : length (front ++ more) ≡ length front + length more = length-append front more in
    ap (λ (l : List ℕ). field l >>= next) (append_assoc front more rest) ∙ ap (λ o. o >>= next) (first (omega (arith, sum, lt))) ∙ others (omega (arith, sum, lt))

number_again : (w : Width) (limit : ℕ) (len : (n : ℕ) → length (to_be_bytes w n) ≡ byte_len w) (again : (n : ℕ) → n < limit → from_be_bytes w (to_be_bytes w n) ≡ n) (n : ℕ) (rest : List ℕ) → n < limit → number_at w (to_be_bytes w n ++ rest) ≡ Some (n, rest)
number_again w limit len again n rest lt =
    let size = len n in
    let long : ltb (length (to_be_bytes w n ++ rest)) (byte_len w) ≡ false = le-ltb _ _ (omega (arith, length-append (to_be_bytes w n) rest)) in
    rw (long, take_at (to_be_bytes w n) rest (byte_len w) size, drop_at (to_be_bytes w n) rest (byte_len w) size, again n lt) refl

pub four_again : (n : ℕ) (rest : List ℕ) → n < 2 ^ 32 → number_at w32 (to_be_bytes w32 n ++ rest) ≡ Some (n, rest)
four_again = number_again w32 (2 ^ 32) (λ n. refl) (λ n lt. from_be_bytes-to_be_bytes_4 n lt)

eight_again : (n : ℕ) (rest : List ℕ) → n < 2 ^ 64 → number_at w64 (to_be_bytes w64 n ++ rest) ≡ Some (n, rest)
eight_again = number_again w64 (2 ^ 64) (λ n. refl) (λ n lt. from_be_bytes-to_be_bytes_8 n lt)

utf8_again : (text : List ℕ) → IsText text → utf8_of text ≡ Some text
utf8_again text is = ap (λ b. cond b (Some text) None) is

pub text_again : (text rest : List ℕ) → IsText text → length text < 2 ^ 32 → text_at (text_bytes text ++ rest) ≡ Some (text, rest)
unfolding text_at
text_again text rest is lt =
    let long : ltb (length (text ++ rest)) (length text) ≡ false = le-ltb _ _ (omega (arith, length-append text rest)) in
    rw (four_again (length text) (text ++ rest) lt, long, take_at text rest (length text) refl, drop_at text rest (length text) refl, utf8_again text is) refl

pub option_again : (o : Option (List ℕ)) (rest : List ℕ) → IfSome o IsText → IfSome o (λ text. length text < 2 ^ 32) → option_at (option_bytes o ++ rest) ≡ Some (o, rest)
unfolding option_at
option_again None rest is lt = refl
option_again (Some text) rest is lt = rw (text_again text rest is lt) refl

pub text_short : (text : List ℕ) → length (text_bytes text) < 2 ^ 32 → length text < 2 ^ 32
text_short text lt = omega (arith, length-append (to_be_bytes w32 (length text)) text)

pub option_short : (o : Option (List ℕ)) → length (option_bytes o) < 2 ^ 32 → IfSome o (λ text. length text < 2 ^ 32)
option_short None lt = tt
option_short (Some text) lt = omega (arith, length-append (to_be_bytes w32 (length text)) text)

pub moment_again : (at : Moment) (rest : List ℕ) → moment_at (moment_bytes at ++ rest) ≡ Some (at, rest)
unfolding moment_at
moment_again at rest =
    ap moment_at (append_assoc (to_be_bytes w64 at.seconds) (to_be_bytes w32 at.nanos) rest)
    ∙ rw (eight_again at.seconds (to_be_bytes w32 at.nanos ++ rest) (omega arith), four_again at.nanos rest (omega arith), moment_of-numbers at) refl

pub uuid_again : (u rest : List ℕ) → IsUuid u → uuid_at (u ++ rest) ≡ Some (u, rest)
uuid_again u rest is =
    let long : ltb (length (u ++ rest)) 16 ≡ false = le-ltb _ _ (omega (arith, length-append u rest)) in
    rw (long, take_at u rest 16 is, drop_at u rest 16 is) refl

-- ---- one after another

module _ {A : Type 0} (one : List ℕ → Option (A × List ℕ)) (spell : A → List ℕ) (P : A → Type 0) (again : (x : A) (rest : List ℕ) → P x × (length (spell x) < 2 ^ 32) → one (spell x ++ rest) ≡ Some (x, rest)) where
  pub many_again : (xs : List A) (rest : List ℕ) → AllByRecursion P xs → length (flat_map spell xs) < 2 ^ 32 → many_at one (length xs) (flat_map spell xs ++ rest) ≡ Some (xs, rest)
  unfolding many_at
  many_again [] rest fits lt = refl
  many_again (x ∷ xs) rest fits lt =
      let cons : flat_map spell (x ∷ xs) ≡ spell x ++ flat_map spell xs = flat_map-cons spell x xs in
      let sum : length (flat_map spell (x ∷ xs)) ≡ length (spell x) + length (flat_map spell xs) = ap length cons ∙ length-append (spell x) (flat_map spell xs) in
      let regrouped : flat_map spell (x ∷ xs) ++ rest ≡ spell x ++ (flat_map spell xs ++ rest) = ap (λ (l : List ℕ). l ++ rest) cons ∙ append_assoc (spell x) (flat_map spell xs) rest in
      ap (many_at one (suc (length xs))) regrouped ∙ rw (again x (flat_map spell xs ++ rest) (fits.0, omega arith), many_again xs rest fits.1 (omega arith)) refl

  -- each has at least one byte, so there are no more than bytes
  pub few : (xs : List A) → ((x : A) → 0 < length (spell x)) → length xs ≤ length (flat_map spell xs)
  few [] some = omega arith
  few (x ∷ xs) some =
      let sum : length (flat_map spell (x ∷ xs)) ≡ length (spell x) + length (flat_map spell xs) = ap length (flat_map-cons spell x xs) ∙ length-append (spell x) (flat_map spell xs) in
      omega (arith, some x, few xs some)

pub held : (b : Bool) → T b → b ≡ true
held true p = refl
held false p = absurd p
