-- Trees from their parts, and the fronts of tokens that may go on to one.
use Rattle.std.proofs.Common.{◌≡◌, ℕ, ◌+◌, ◌≤◌, Bool, true, false, cond, ◌&&◌, List, [], ◌∷◌, ◌++◌, map, append_assoc, refl, sym, ap, subst, ◌∙◌, arith}
use Rattle.tw_terms.specs.declared.id_word.Name.{Name}
use Rattle.tw_terms.specs.declared.term.Term.{Term}
use Rattle.tw_terms.specs.declared.token.Token.{Token}
use Rattle.tw_terms.specs.declared.token.Token.TheVariants.{Xor, Or, And, Not, Open, Close, Named, Asked}
use Rattle.tw_terms.specs.Tokens.{is_name}
use Rattle.tw_filter.specs.Trees.{Tree, begins_with_name, is_name_last, ends_with_name, beside, spelled, depth_of}
use Rattle.tw_filter.specs.Trees.Tree.{OneName, Ask, Unless, Within, Both, Beside, OneAtLeast, OneOnly}

-- ---- trees from their parts

-- these tokens spell a tree where it binds so, with at most so many open brackets
pub record Spells (binding room : ℕ) (xs : List Token) : Type 0 where
  pub tree : Tree
  pub fits : depth_of binding tree ≤ room
  pub is : spelled binding tree ≡ xs

pub part_is_both : (room : ℕ) (xs : List Token) → Spells 3 room xs → Spells 2 room xs
part_is_both room xs h = by h.tree h.fits h.is
  where
    by : (t : Tree) → depth_of 3 t ≤ room → spelled 3 t ≡ xs → Spells 2 room xs
    by (Both a b) fits is = record { tree = Within (Both a b); fits = fits; is = is }
    by (Beside a b) fits is = record { tree = Within (Beside a b); fits = fits; is = is }
    by t fits is = record { tree = t; fits = fits; is = is }

pub both_is_any : (room : ℕ) (xs : List Token) → Spells 2 room xs → Spells 1 room xs
both_is_any room xs h = by h.tree h.fits h.is
  where
    by : (t : Tree) → depth_of 2 t ≤ room → spelled 2 t ≡ xs → Spells 1 room xs
    by (OneAtLeast a b) fits is = record { tree = Within (OneAtLeast a b); fits = fits; is = is }
    by t fits is = record { tree = t; fits = fits; is = is }

pub any_is_odd : (room : ℕ) (xs : List Token) → Spells 1 room xs → Spells 0 room xs
any_is_odd room xs h = by h.tree h.fits h.is
  where
    by : (t : Tree) → depth_of 1 t ≤ room → spelled 1 t ≡ xs → Spells 0 room xs
    by (OneOnly a b) fits is = record { tree = Within (OneOnly a b); fits = fits; is = is }
    by t fits is = record { tree = t; fits = fits; is = is }

pub names_spell : (room : ℕ) (n : Name) (ns : List Name) → Spells 3 room (map Named (n ∷ ns))
names_spell room n ns = record { tree = OneName n ns; fits = omega arith; is = refl }

pub term_spells : (room : ℕ) (t : Term) → Spells 3 room (Asked t ∷ [])
term_spells room t = record { tree = Ask t; fits = omega arith; is = refl }

not_spells : (room : ℕ) (xs : List Token) → Spells 3 room xs → Spells 3 room (Not ∷ xs)
not_spells room xs h = record { tree = Unless h.tree; fits = h.fits; is = ap (λ ys. Not ∷ ys) h.is }

brackets_spell : (inner room : ℕ) (xs : List Token) → inner + 1 ≤ room → Spells 0 inner xs → Spells 3 room (Open ∷ xs ++ Close ∷ [])
brackets_spell inner room xs more h = let fits = h.fits in record { tree = Within h.tree; fits = omega arith; is = ap (λ ys. Open ∷ ys ++ Close ∷ []) h.is }

and_spells : (room : ℕ) (xs ys : List Token) → Spells 2 room xs → Spells 3 room ys → Spells 2 room (xs ++ And ∷ ys)
and_spells room xs ys h k =
    let one = h.fits in let two = k.fits in
    record { tree = Both h.tree k.tree; fits = omega arith; is = λ i. h.is i ++ And ∷ k.is i }

-- beside each other, where they are not two names
pub beside_spell : (room : ℕ) (xs ys : List Token) → (ends_with_name xs && begins_with_name ys) ≡ false → Spells 2 room xs → Spells 3 room ys → Spells 2 room (xs ++ ys)
beside_spell room xs ys apart h k =
    let one = h.fits in let two = k.fits in
    record { tree = Beside h.tree k.tree; fits = omega arith; is = (λ i. beside (h.is i) (k.is i)) ∙ ap (λ b. cond b (xs ++ And ∷ ys) (xs ++ ys)) apart }

or_spells : (room : ℕ) (xs ys : List Token) → Spells 1 room xs → Spells 2 room ys → Spells 1 room (xs ++ Or ∷ ys)
or_spells room xs ys h k =
    let one = h.fits in let two = k.fits in
    record { tree = OneAtLeast h.tree k.tree; fits = omega arith; is = λ i. h.is i ++ Or ∷ k.is i }

xor_spells : (room : ℕ) (xs ys : List Token) → Spells 0 room xs → Spells 1 room ys → Spells 0 room (xs ++ Xor ∷ ys)
xor_spells room xs ys h k =
    let one = h.fits in let two = k.fits in
    record { tree = OneOnly h.tree k.tree; fits = omega arith; is = λ i. h.is i ++ Xor ∷ k.is i }

-- ---- fronts, and what they wait for

-- a front of the parts of `xor`, of those of `or`, and of those of `and` where a part, names or a closed bracket comes next
abbrev pub FrontOfXor : ℕ → List Token → Type 0
FrontOfXor room front = (xs : List Token) → Spells 1 room xs → Spells 0 room (front ++ xs)

abbrev pub FrontOfOr : ℕ → List Token → Type 0
FrontOfOr room front = (xs : List Token) → Spells 2 room xs → Spells 1 room (front ++ xs)

abbrev pub FrontOfPart : ℕ → List Token → Type 0
FrontOfPart room front = (xs : List Token) → Spells 3 room xs → Spells 2 room (front ++ xs)

abbrev pub FrontOfNames : ℕ → List Token → Type 0
FrontOfNames room front = (n : Name) (ns : List Name) → Spells 2 room (front ++ map Named (n ∷ ns))

abbrev pub FrontOfBracket : (inner room : ℕ) → List Token → Type 0
FrontOfBracket inner room front = (xs : List Token) → Spells 0 inner xs → Spells 2 room (front ++ (Open ∷ xs ++ Close ∷ []))

one_more : (xs ys : List Token) (t : Token) → xs ++ t ∷ ys ≡ (xs ++ t ∷ []) ++ ys
one_more xs ys t = sym (append_assoc xs (t ∷ []) ys)

pub behind_xor : (room : ℕ) (xs : List Token) → Spells 0 room xs → FrontOfXor room (xs ++ Xor ∷ [])
behind_xor room xs h ys k = subst (Spells 0 room) (one_more xs ys Xor) (xor_spells room xs ys h k)

pub behind_or : (room : ℕ) (xs : List Token) → Spells 1 room xs → FrontOfOr room (xs ++ Or ∷ [])
behind_or room xs h ys k = subst (Spells 1 room) (one_more xs ys Or) (or_spells room xs ys h k)

pub behind_and : (room : ℕ) (xs : List Token) → Spells 2 room xs → FrontOfPart room (xs ++ And ∷ [])
behind_and room xs h ys k = subst (Spells 2 room) (one_more xs ys And) (and_spells room xs ys h k)

-- whatever ends before, no name follows it
pub no_name : (b : Bool) → (b && false) ≡ false
no_name true = refl
no_name false = refl

pub behind_part_not : (room : ℕ) (xs : List Token) → Spells 2 room xs → FrontOfPart room (xs ++ Not ∷ [])
behind_part_not room xs h ys k =
    subst (Spells 2 room) (one_more xs ys Not) (beside_spell room xs (Not ∷ ys) (no_name (ends_with_name xs)) h (not_spells room ys k))

pub behind_not : (room : ℕ) (front : List Token) → FrontOfPart room front → FrontOfPart room (front ++ Not ∷ [])
behind_not room front waits ys k = subst (Spells 2 room) (one_more front ys Not) (waits (Not ∷ ys) (not_spells room ys k))

pub behind_part_open : (inner room : ℕ) (xs : List Token) → inner + 1 ≤ room → Spells 2 room xs → FrontOfBracket inner room xs
behind_part_open inner room xs more h ys k =
    beside_spell room xs (Open ∷ ys ++ Close ∷ []) (no_name (ends_with_name xs)) h (brackets_spell inner room ys more k)

pub behind_open : (inner room : ℕ) (front : List Token) → inner + 1 ≤ room → FrontOfPart room front → FrontOfBracket inner room front
behind_open inner room front more waits ys k = waits (Open ∷ ys ++ Close ∷ []) (brackets_spell inner room ys more k)

-- the last token of more tokens
pub last_of_more : (xs ys : List Token) (t : Token) (was : Bool) → is_name_last was (xs ++ t ∷ ys) ≡ is_name_last (is_name t) ys
last_of_more [] ys t was = refl
last_of_more (x ∷ xs) ys t was = last_of_more xs ys t (is_name x)

pub last_of_brackets : (front xs : List Token) → ends_with_name (front ++ (Open ∷ xs ++ Close ∷ [])) ≡ false
last_of_brackets front xs = last_of_more front (xs ++ Close ∷ []) Open false ∙ last_of_more xs [] Close false
