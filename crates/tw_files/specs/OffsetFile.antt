-- What a file that is read and written at offsets holds, if that is known.
use Rattle.std.specs.Prelude.{◌≡◌, ℕ, ◌+◌, ◌<◌, ◌≤◌, List, Option, Some, None, length, take, drop}
use Rattle.std.specs.Option.{ForSome}
use Rattle.tw_world.specs.Disk.{overwritten, resized}

-- it has so many bytes
abbrev pub HasLength : Option (List ℕ) → ℕ → Type 0
HasLength held len = ForSome held (λ bytes. len ≡ length bytes)

-- a length of at least this stays
abbrev pub KeepsLength : (old new : Option (List ℕ)) → ℕ → Type 0
KeepsLength old new least = (len : ℕ) → least ≤ len → HasLength old len → HasLength new len

-- it has these bytes at an offset
abbrev pub Holds : Option (List ℕ) → ℕ → List ℕ → Type 0
Holds None at bytes = Unit {0}
Holds (Some held) at bytes = bytes ≡ take (length bytes) (drop at held)

-- these bytes were written over those at an offset inside
abbrev pub Overwrites : (old new : Option (List ℕ)) → ℕ → List ℕ → Type 0
Overwrites None new at bytes = new ≡ None
Overwrites (Some old) None at bytes = ⊥
Overwrites (Some old) (Some new) at bytes = at + length bytes ≤ length old → new ≡ overwritten at bytes old

-- it was cut to a length, or zeros were added up to it
abbrev pub Resizes : (old new : Option (List ℕ)) → ℕ → Type 0
Resizes None new len = new ≡ None
Resizes (Some old) None len = ⊥
Resizes (Some old) (Some new) len = new ≡ resized len old

-- it has no byte at this offset, nor after it
abbrev pub EndsBy : Option (List ℕ) → ℕ → Type 0
EndsBy held at = ForSome held (λ bytes. length bytes ≤ at)

-- it has fewer bytes
abbrev pub IsShorter : Option (List ℕ) → ℕ → Type 0
IsShorter held len = ForSome held (λ bytes. length bytes < len)
