-- Which tasks the names in a filter stand for. No public clause cites this module.
use Rattle.std.specs.Prelude.{◌≡◌, ℕ, ◌+◌, ◌<◌, ◌&&◌, nat_le, Bool, false, List, length, slice_index_or, Option, Some, None}
use Rattle.std.specs.List.{list_any}
use Rattle.tw_model.specs.Maps.{same_bytes}
use Rattle.tw_model.specs.Places.{Places, id_of}
use Rattle.tw_terms.specs.Holds.{passes}
use Rattle.tw_terms.specs.declared.id_word.Name.TheVariants.{Numbers, One}
use Rattle.tw_terms.specs.declared.token.Token.{Token}
use Rattle.tw_terms.specs.declared.token.Token.TheVariants.{Named}

-- whether a token names a number
abbrev pub names_number : ℕ → Token → Bool
names_number n (Named (Numbers first last)) = nat_le first n && nat_le n last
names_number n _ = false

-- the uuid that it is
abbrev pub uuid_in : Token → Option (List ℕ)
uuid_in (Named (One v)) = Some v
uuid_in _ = None

-- whether it names a uuid, or its number in the places
abbrev pub names : Places → List ℕ → Token → Bool
names places u (Named (Numbers first last)) = passes (λ id. nat_le first id && nat_le id last) (id_of u places)
names places u (Named (One v)) = same_bytes u v
names places u _ = false

-- flags tell of each place whether one of the tokens names its number
abbrev pub AreFlags : List Token → List Bool → Type 0
AreFlags tokens flags = (k : ℕ) → k < length flags → slice_index_or flags k false ≡ list_any (names_number (k + 1)) tokens
