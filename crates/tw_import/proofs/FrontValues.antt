-- The value at the front, by its first token.
use Rattle.std.proofs.Common.{◌≡◌, ℕ, ◌-◌, ◌<◌, List, [], ◌∷◌, Bool, true, false, length, Option, Some, None, option_map, refl, ap, ◌∙◌}
use Rattle.json.specs.Token.{Token}
use Rattle.json.specs.Json.{value, items, members, parse_map}
use Rattle.json.proofs.Grammar.{value_is, value-begin_array, value-begin_object}
use Rattle.serde_json.specs.Data.{Data, Num, null, boolean, number, string, array, object}
use Rattle.serde_json.specs.Read.{of_json, converted, number_of}
use Rattle.tw_import.proofs.GrammarLoops.{converted-array, converted-object}
use Rattle.tw_import.specs.Passing.{value_at, items_at, members_at}

-- nothing can begin a value with this token
abbrev pub begins_none : Token → Bool
begins_none Token.begin_object = false
begins_none Token.end_object = true
begins_none Token.begin_array = false
begins_none Token.end_array = true
begins_none (Token.key s) = true
begins_none (Token.string s) = false
begins_none (Token.number s) = false
begins_none (Token.boolean b) = false
begins_none Token.null = false
begins_none Token.bad = true

module _ (depth : ℕ) (r : List Token) where
  pub at_end : value_at depth [] ≡ None
  at_end = ap (converted of_json) (value_is depth [])

  pub at_string : (s : List ℕ) → value_at depth (Token.string s ∷ r) ≡ Some (string s, r)
  at_string s = ap (converted of_json) (value_is depth (Token.string s ∷ r))

  pub at_boolean : (b : Bool) → value_at depth (Token.boolean b ∷ r) ≡ Some (boolean b, r)
  at_boolean b = ap (converted of_json) (value_is depth (Token.boolean b ∷ r))

  pub at_null : value_at depth (Token.null ∷ r) ≡ Some (null, r)
  at_null = ap (converted of_json) (value_is depth (Token.null ∷ r))

  numbered : (o : Option Num) → option_map {U = Data × List Token} (λ d. (d, r)) (option_map number o) ≡ option_map (λ n. (number n, r)) o
  numbered None = refl
  numbered (Some n) = refl

  pub at_number : (s : List ℕ) → value_at depth (Token.number s ∷ r) ≡ option_map (λ n. (number n, r)) (number_of s)
  at_number s = ap (converted of_json) (value_is depth (Token.number s ∷ r)) ∙ numbered (number_of s)

  pub at_array : 0 < depth → value_at depth (Token.begin_array ∷ r) ≡ parse_map array (items_at (depth - 1) r)
  at_array h = ap (converted of_json) (value-begin_array depth r h) ∙ converted-array (items (value (depth - 1)) (length r) r)

  pub at_object : 0 < depth → value_at depth (Token.begin_object ∷ r) ≡ parse_map object (members_at (depth - 1) r)
  at_object h = ap (converted of_json) (value-begin_object depth r h) ∙ converted-object (members (value (depth - 1)) (length r) r)

  pub at_none : (t : Token) → begins_none t ≡ true → value_at depth (t ∷ r) ≡ None
  at_none Token.begin_object h = absurd (cc)
  at_none Token.end_object h = ap (converted of_json) (value_is depth (Token.end_object ∷ r))
  at_none Token.begin_array h = absurd (cc)
  at_none Token.end_array h = ap (converted of_json) (value_is depth (Token.end_array ∷ r))
  at_none (Token.key s) h = ap (converted of_json) (value_is depth (Token.key s ∷ r))
  at_none (Token.string s) h = absurd (cc)
  at_none (Token.number s) h = absurd (cc)
  at_none (Token.boolean b) h = absurd (cc)
  at_none Token.null h = absurd (cc)
  at_none Token.bad h = ap (converted of_json) (value_is depth (Token.bad ∷ r))

pub too_deep_array : (r : List Token) → value_at 0 (Token.begin_array ∷ r) ≡ None
unfolding value
too_deep_array r = refl

pub too_deep_object : (r : List Token) → value_at 0 (Token.begin_object ∷ r) ≡ None
unfolding value
too_deep_object r = refl
