-- Reading fields from left to right.
use Rattle.std.specs.Prelude.{◌≡◌, ℕ, zero, suc, List, [], ◌∷◌, ◌++◌, length, take, drop, Option, Some, None, Result, Ok, Err, nat_lt, if◌then◌else◌}
use Rattle.std.specs.Int.{Width, w32, w64, byte_len, from_be_bytes}
use Rattle.std.specs.Str.{is_utf8}
use Rattle.tw_world.specs.declared.Moment.{Moment}
use Rattle.tw_world.specs.Moment.{moment_of}
use Rattle.tw_fields.specs.declared.read.ReadError.{ReadError}
use Rattle.tw_fields.specs.declared.read.ReadError.TheVariants.{Memory, Malformed}

infixl 10 ◌>>=◌
abbrev pub ◌>>=◌ : {A B : Type 0} → Option A → (A → Option B) → Option B
(Some x) >>= f = f x
None >>= f = None

-- What a function returned, seen by view, is what reading gives, unless memory ran out.
abbrev pub Fails : {Y : Type 0} → ReadError → Option Y → Type 0
Fails Memory read = Unit {0}
Fails Malformed read = read ≡ None

abbrev pub Gives : {X Y : Type 0} → (X → Y) → Result X ReadError → Option Y → Type 0
Gives view (Ok x) read = read ≡ Some (view x)
Gives view (Err e) read = Fails e read

-- A field is a value and the bytes after it.
abbrev pub number_at : Width → List ℕ → Option (ℕ × List ℕ)
number_at w bytes = if nat_lt (length bytes) (byte_len w) then None else Some (from_be_bytes w (take (byte_len w) bytes), drop (byte_len w) bytes)

abbrev pub utf8_of : List ℕ → Option (List ℕ)
utf8_of bytes = if is_utf8 bytes then Some bytes else None

unfoldable pub text_at : List ℕ → Option (List ℕ × List ℕ)
text_at bytes = do
  n ← number_at w32 bytes
  if nat_lt (length n.1) n.0 then None else (utf8_of (take n.0 n.1) >>= λ text. Some (text, drop n.0 n.1))

unfoldable pub option_at : List ℕ → Option (Option (List ℕ) × List ℕ)
option_at [] = None
option_at (zero ∷ rest) = Some (None, rest)
option_at (suc zero ∷ rest) = do
  text ← text_at rest
  Some (Some text.0, text.1)
option_at (suc (suc b) ∷ rest) = None

unfoldable pub moment_at : List ℕ → Option (Moment × List ℕ)
moment_at bytes = do
  seconds ← number_at w64 bytes
  nanos ← number_at w32 seconds.1
  at ← moment_of seconds.0 nanos.0
  Some (at, nanos.1)

abbrev pub uuid_at : List ℕ → Option (List ℕ × List ℕ)
uuid_at bytes = if nat_lt (length bytes) 16 then None else Some (take 16 bytes, drop 16 bytes)

-- bytes after their length in four bytes
unfoldable pub bytes_at : List ℕ → Option (List ℕ × List ℕ)
bytes_at bytes = do
  n ← number_at w32 bytes
  if nat_lt (length n.1) n.0 then None else Some (take n.0 n.1, drop n.0 n.1)

-- so many of them, one after another
unfoldable pub many_at : {A : Type 0} → (List ℕ → Option (A × List ℕ)) → ℕ → List ℕ → Option (List A × List ℕ)
many_at one zero bytes = Some ([], bytes)
many_at one (suc n) bytes = do
  first ← one bytes
  others ← many_at one n first.1
  Some (first.0 ∷ others.0, others.1)

-- what was read before, and what is still read
abbrev pub with_front : {A : Type 0} → List A → Option (List A × List ℕ) → Option (List A × List ℕ)
with_front front read = read >>= λ x. Some (front ++ x.0, x.1)

-- what was read, after others
abbrev pub with_last : {A : Type 0} → List A → Option (A × List ℕ) → Option (List A × List ℕ)
with_last front read = read >>= λ x. Some (front ++ x.0 ∷ [], x.1)

-- so many as four bytes say
unfoldable pub counted_at : {A : Type 0} → (List ℕ → Option (A × List ℕ)) → List ℕ → Option (List A × List ℕ)
counted_at one bytes = do
  n ← number_at w32 bytes
  many_at one n.0 n.1
