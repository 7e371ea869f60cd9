-- How many keys an object has.
use Rattle.std.proofs.Common.{◌≡◌, ℕ, suc, List, [], ◌∷◌, false, Some, refl, ap, arith, ◌∙◌, length, nat_eq, String, Global}
use Rattle.serde_json.specs.Data.{Data, null, boolean, number, string, array, object}
use Rattle.serde_json.specs.Find.{as_object}
use Rattle.serde_json.specs.View.{members_view}
use Rattle.serde_json.specs.declared.value.Value.{Value}
use Rattle.tw_segment.specs.Segment.{one_member, has_one_key}

one_of : (es : List (String Global × Value)) → nat_eq (length es) 1 ≡ one_member (members_view es)
one_of [] = refl
one_of (e ∷ []) = refl
one_of (e ∷ f ∷ es) = more (length es)
  where
    more : (n : ℕ) → nat_eq (suc (suc n)) 1 ≡ false
    more n = grind arith

pub one_key_at : (d : Data) (es : List (String Global × Value)) → Some (members_view es) ≡ as_object d → nat_eq (length es) 1 ≡ has_one_key d
one_key_at null es h = absurd (cc)
one_key_at (boolean b) es h = absurd (cc)
one_key_at (number n) es h = absurd (cc)
one_key_at (string s) es h = absurd (cc)
one_key_at (array ds) es h = absurd (cc)
one_key_at (object ms) es h = let same : members_view es ≡ ms = cc in one_of es ∙ ap one_member same
