-- What lines had after their moments, by places.
use Rattle.std.specs.Prelude.{◌≡◌, ℕ, List, Option, Some, None}
use Rattle.timew_month.specs.declared.read.seen.Seen.{Seen}

-- a place has what was read of these bytes
abbrev pub HasBytes : Option Seen → List ℕ → Type 0
HasBytes None bytes = ⊥
HasBytes (Some s) bytes = s.bytes.now ≡ bytes
