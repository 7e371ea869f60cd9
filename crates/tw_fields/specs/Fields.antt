-- The bytes of fields.
use Rattle.std.specs.Prelude.{◌≡◌, ℕ, true, List, [], ◌∷◌, ◌++◌, length, Option, Some, None}
use Rattle.std.specs.Str.{is_utf8}
use Rattle.std.specs.Int.{w32, w64, to_be_bytes}
use Rattle.tw_world.specs.declared.Moment.{Moment}

-- four bytes of length, and that many bytes
abbrev pub field_bytes : List ℕ → List ℕ
field_bytes bytes = to_be_bytes w32 (length bytes) ++ bytes

-- a text as such bytes
abbrev pub text_bytes : List ℕ → List ℕ
text_bytes text = to_be_bytes w32 (length text) ++ text

-- a flag, and the text if there is one
abbrev pub option_bytes : Option (List ℕ) → List ℕ
option_bytes None = 0 ∷ []
option_bytes (Some text) = 1 ∷ text_bytes text

abbrev pub moment_bytes : Moment → List ℕ
moment_bytes at = to_be_bytes w64 at.seconds ++ to_be_bytes w32 at.nanos

-- what a text of the program is
abbrev pub IsText : List ℕ → Type 0
IsText text = is_utf8 text ≡ true

abbrev pub IsUuid : List ℕ → Type 0
IsUuid u = length u ≡ 16
