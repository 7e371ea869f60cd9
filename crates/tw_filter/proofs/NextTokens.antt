-- Truth, and which tokens come next.
use Rattle.std.proofs.Common.{◌≡◌, Bool, true, false, not, ◌&&◌, ◌||◌, List, [], ◌∷◌, refl}
use Rattle.tw_filter.specs.Evaluation.{differ}
use Rattle.tw_terms.specs.declared.token.Token.{Token}
use Rattle.tw_terms.specs.declared.token.Token.TheVariants.{Xor, Or, And, Not, Open, Close, Named, Asked}

-- ---- truth

pub plain : (b : Bool) → differ b false ≡ b
plain true = refl
plain false = refl

pub differ_not : (v t : Bool) → differ v (not t) ≡ differ (not v) t
differ_not true true = refl
differ_not true false = refl
differ_not false t = refl

pub and_both : (all a b : Bool) → ((all && differ a false) && differ b false) ≡ (all && differ (a && b) false)
and_both false a b = refl
and_both true false b = refl
and_both true true b = refl

pub or_more : (any a b : Bool) → ((any || a) || b) ≡ (any || (a || b))
or_more true a b = refl
or_more false a b = refl

pub or_none : (a : Bool) → (a || false) ≡ a
or_none true = refl
or_none false = refl

pub and_true : (a : Bool) → (a && true) ≡ a
and_true true = refl
and_true false = refl

pub differ_more : (odd a b : Bool) → differ (differ odd a) b ≡ differ odd (differ a b)
differ_more true true true = refl
differ_more true true false = refl
differ_more true false b = refl
differ_more false a b = refl

-- ---- what may follow

abbrev pub unnamed : List Token → Bool
unnamed (Named n ∷ ts) = false
unnamed [] = true
unnamed (Xor ∷ ts) = true
unnamed (Or ∷ ts) = true
unnamed (And ∷ ts) = true
unnamed (Not ∷ ts) = true
unnamed (Open ∷ ts) = true
unnamed (Close ∷ ts) = true
unnamed (Asked t ∷ ts) = true

abbrev pub at_or : List Token → Bool
at_or [] = true
at_or (Xor ∷ ts) = true
at_or (Or ∷ ts) = true
at_or (Close ∷ ts) = true
at_or (And ∷ ts) = false
at_or (Not ∷ ts) = false
at_or (Open ∷ ts) = false
at_or (Named n ∷ ts) = false
at_or (Asked t ∷ ts) = false

abbrev pub at_xor : List Token → Bool
at_xor [] = true
at_xor (Xor ∷ ts) = true
at_xor (Close ∷ ts) = true
at_xor (Or ∷ ts) = false
at_xor (And ∷ ts) = false
at_xor (Not ∷ ts) = false
at_xor (Open ∷ ts) = false
at_xor (Named n ∷ ts) = false
at_xor (Asked t ∷ ts) = false

pub or_unnamed : (ts : List Token) → at_or ts ≡ true → unnamed ts ≡ true
or_unnamed [] e = refl
or_unnamed (Xor ∷ ts) e = refl
or_unnamed (Or ∷ ts) e = refl
or_unnamed (And ∷ ts) e = refl
or_unnamed (Not ∷ ts) e = refl
or_unnamed (Open ∷ ts) e = refl
or_unnamed (Close ∷ ts) e = refl
or_unnamed (Named n ∷ ts) e = absurd (cc)
or_unnamed (Asked t ∷ ts) e = refl

pub xor_or : (ts : List Token) → at_xor ts ≡ true → at_or ts ≡ true
xor_or [] e = refl
xor_or (Xor ∷ ts) e = refl
xor_or (Or ∷ ts) e = refl
xor_or (And ∷ ts) e = absurd (cc)
xor_or (Not ∷ ts) e = absurd (cc)
xor_or (Open ∷ ts) e = absurd (cc)
xor_or (Close ∷ ts) e = refl
xor_or (Named n ∷ ts) e = absurd (cc)
xor_or (Asked t ∷ ts) e = absurd (cc)
