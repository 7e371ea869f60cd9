-- The tokens that spell a tree hold if it does.
use Rattle.std.proofs.Common.{◌≡◌, ◌∙◌, Bool, true, false, not, cond, ◌&&◌, ◌||◌, List, [], ◌∷◌, ◌++◌, map, Option, Some, None, is_some, refl, sym, ap, subst}
use Rattle.std.proofs.lemmas.List.{append_assoc, append-nil}
use Rattle.std.specs.List.{list_any}
use Rattle.tw_filter.specs.Evaluation.{Standing, differ, with_part, turned, fresh, value, whole_frame, standing, close, or_named, with_token, with_tokens, beginning, all_hold}
use Rattle.tw_terms.specs.Tokens.{is_name}
use Rattle.tw_filter.specs.Trees.{Tree, tree_holds, spelled, TreesHold, begins_with_name, is_name_last, ends_with_name, beside, AndIsImplied}
use Rattle.tw_filter.specs.Trees.Tree.{OneName, Ask, Unless, Within, Both, Beside, OneAtLeast, OneOnly}
use Rattle.tw_terms.specs.declared.id_word.Name.{Name}
use Rattle.tw_terms.specs.declared.term.Term.{Term}
use Rattle.tw_terms.specs.declared.token.Token.{Token}
use Rattle.tw_terms.specs.declared.token.Token.TheVariants.{Xor, Or, And, Not, Open, Close, Named, Asked}
use Rattle.tw_filter.specs.declared.evaluation.Frame.{Frame}
use Rattle.tw_filter.proofs.NextTokens.{plain, differ_not, and_both, or_more, or_none, and_true, differ_more, unnamed, at_or, at_xor, or_unnamed, xor_or}

abbrev frame : (odd any all : Bool) → Frame
frame odd any all = record { odd = odd; any = any; all = all; turned = false }

module _ (names : Name → Bool) (terms : Term → Bool) where
  abbrev gives : Standing → List Token → Bool
  gives s ts = value (whole_frame (with_tokens names terms s ts))

  abbrev holds : Tree → Bool
  holds t = tree_holds names terms t

  settle : (s : Standing) (ts : List Token) → unnamed ts ≡ true → gives s ts ≡ gives (standing (whole_frame s) s.outer) ts
  settle s [] e = refl
  settle s (Xor ∷ ts) e = refl
  settle s (Or ∷ ts) e = refl
  settle s (And ∷ ts) e = refl
  settle s (Not ∷ ts) e = refl
  settle s (Open ∷ ts) e = refl
  settle s (Close ∷ ts) e = refl
  settle s (Named n ∷ ts) e = absurd (cc)
  settle s (Asked t ∷ ts) e = refl

  abbrev having : Frame → List Frame → Bool → Standing
  having f outer one = record { inner = f; outer = outer; named = Some one }

  all_names : (f : Frame) (outer : List Frame) (one : Bool) (ns : List Name) (ts : List Token) → gives (having f outer one) (map Named ns ++ ts) ≡ gives (having f outer (one || list_any names ns)) ts
  all_names f outer one [] ts = ap (λ b. gives (having f outer b) ts) (sym (or_none one))
  all_names f outer one (n ∷ ns) ts = all_names f outer (one || names n) ns ts ∙ ap (λ b. gives (having f outer b) ts) (or_more one (names n) (list_any names ns))

  same_or : (f g : Frame) (outer : List Frame) (ts : List Token) → f.odd ≡ g.odd → (f.any || f.all) ≡ (g.any || g.all) → at_or ts ≡ true → gives (standing f outer) ts ≡ gives (standing g outer) ts
  same_or f g outer [] o a e = λ i. differ (o i) (a i)
  same_or f g outer (Xor ∷ ts) o a e = λ i. gives (standing (frame (differ (o i) (a i)) false true) outer) ts
  same_or f g outer (Or ∷ ts) o a e = λ i. gives (standing (frame (o i) (a i) true) outer) ts
  same_or f g outer (And ∷ ts) o a e = absurd (cc)
  same_or f g outer (Not ∷ ts) o a e = absurd (cc)
  same_or f g outer (Open ∷ ts) o a e = absurd (cc)
  same_or f g outer (Close ∷ ts) o a e = λ i. gives (close (differ (o i) (a i)) outer) ts
  same_or f g outer (Named n ∷ ts) o a e = absurd (cc)
  same_or f g outer (Asked t ∷ ts) o a e = absurd (cc)

  same_xor : (f g : Frame) (outer : List Frame) (ts : List Token) → value f ≡ value g → at_xor ts ≡ true → gives (standing f outer) ts ≡ gives (standing g outer) ts
  same_xor f g outer [] v e = v
  same_xor f g outer (Xor ∷ ts) v e = λ i. gives (standing (frame (v i) false true) outer) ts
  same_xor f g outer (Or ∷ ts) v e = absurd (cc)
  same_xor f g outer (And ∷ ts) v e = absurd (cc)
  same_xor f g outer (Not ∷ ts) v e = absurd (cc)
  same_xor f g outer (Open ∷ ts) v e = absurd (cc)
  same_xor f g outer (Close ∷ ts) v e = λ i. gives (close (v i) outer) ts
  same_xor f g outer (Named n ∷ ts) v e = absurd (cc)
  same_xor f g outer (Asked t ∷ ts) v e = absurd (cc)

  -- ---- what tokens do in each place

  abbrev IsPart : List Token → Bool → Type 0
  IsPart xs v = (f : Frame) (outer : List Frame) (ts : List Token) → unnamed ts ≡ true → gives (standing f outer) (xs ++ ts) ≡ gives (standing (with_part v f) outer) ts

  abbrev IsOfAnd : List Token → Bool → Type 0
  IsOfAnd xs v = (odd any all : Bool) (outer : List Frame) (ts : List Token) → unnamed ts ≡ true → gives (standing (frame odd any all) outer) (xs ++ ts) ≡ gives (standing (with_part v (frame odd any all)) outer) ts

  abbrev IsOfOr : List Token → Bool → Type 0
  IsOfOr xs v = (odd any : Bool) (outer : List Frame) (ts : List Token) → at_or ts ≡ true → gives (standing (frame odd any true) outer) (xs ++ ts) ≡ gives (standing (frame odd any v) outer) ts

  abbrev IsOfXor : List Token → Bool → Type 0
  IsOfXor xs v = (odd : Bool) (outer : List Frame) (ts : List Token) → at_xor ts ≡ true → gives (standing (frame odd false true) outer) (xs ++ ts) ≡ gives (standing (frame odd false v) outer) ts

  and_of_part : (xs : List Token) (v : Bool) → IsPart xs v → IsOfAnd xs v
  and_of_part xs v part odd any all outer ts e = part (frame odd any all) outer ts e

  or_of_and : (xs : List Token) (v : Bool) → IsOfAnd xs v → IsOfOr xs v
  or_of_and xs v both odd any outer ts e = both odd any true outer ts (or_unnamed ts e) ∙ ap (λ b. gives (standing (frame odd any b) outer) ts) (plain v)

  xor_of_or : (xs : List Token) (v : Bool) → IsOfOr xs v → IsOfXor xs v
  xor_of_or xs v any odd outer ts e = any odd false outer ts (xor_or ts e)

  joined : (xs ys ts : List Token) (t : Token) → (xs ++ t ∷ ys) ++ ts ≡ xs ++ t ∷ (ys ++ ts)
  joined xs ys ts t = append_assoc xs (t ∷ ys) ts

  part_of_xor : (xs : List Token) (v : Bool) → IsOfXor xs v → IsPart (Open ∷ xs ++ Close ∷ []) v
  part_of_xor xs v inside f outer ts e = ap (gives (standing fresh (f ∷ outer))) (joined xs [] ts Close) ∙ inside false (f ∷ outer) (Close ∷ ts) refl

  -- ---- `and` left out

  tokens_more : (xs ys : List Token) (s : Standing) → with_tokens names terms s (xs ++ ys) ≡ with_tokens names terms (with_tokens names terms s xs) ys
  tokens_more [] ys s = refl
  tokens_more (x ∷ xs) ys s = tokens_more xs ys (with_token names terms s x)

  gives_more : (xs ys : List Token) (s : Standing) → gives s (xs ++ ys) ≡ gives (with_tokens names terms s xs) ys
  gives_more xs ys s = ap (λ q. value (whole_frame q)) (tokens_more xs ys s)

  closed_unnamed : (holds : Bool) (outer : List Frame) → is_some (close holds outer).named ≡ false
  closed_unnamed holds [] = refl
  closed_unnamed holds (f ∷ fs) = refl

  name_at_hand : (o : Option Bool) (holds : Bool) → is_some (or_named o holds) ≡ true
  name_at_hand None holds = refl
  name_at_hand (Some one) holds = refl

  named_after_one : (s : Standing) (t : Token) → is_some (with_token names terms s t).named ≡ is_name t
  named_after_one s Xor = refl
  named_after_one s Or = refl
  named_after_one s And = refl
  named_after_one s Not = refl
  named_after_one s Open = refl
  named_after_one s Close = closed_unnamed (value (whole_frame s)) s.outer
  named_after_one s (Named n) = name_at_hand s.named (names n)
  named_after_one s (Asked t) = refl

  named_after : (xs : List Token) (s : Standing) (was : Bool) → is_some s.named ≡ was → is_some (with_tokens names terms s xs).named ≡ is_name_last was xs
  named_after [] s was e = e
  named_after (x ∷ xs) s was e = named_after xs (with_token names terms s x) (is_name x) (named_after_one s x)

  and_before_name : (f : Frame) (outer : List Frame) (named : Option Bool) (n : Name) (ts : List Token) → is_some named ≡ false
      → gives (record { inner = f; outer = outer; named = named }) (And ∷ Named n ∷ ts) ≡ gives (record { inner = f; outer = outer; named = named }) (Named n ∷ ts)
  and_before_name f outer None n ts e = refl
  and_before_name f outer (Some one) n ts e = absurd (cc)

  and_settles : (s : Standing) (t : Token) (ts : List Token) → (is_some s.named && is_name t) ≡ false → gives s (And ∷ t ∷ ts) ≡ gives s (t ∷ ts)
  and_settles s Xor ts e = refl
  and_settles s Or ts e = refl
  and_settles s And ts e = refl
  and_settles s Not ts e = refl
  and_settles s Open ts e = refl
  and_settles s Close ts e = refl
  and_settles s (Named n) ts e = and_before_name s.inner s.outer s.named n ts (sym (and_true (is_some s.named)) ∙ e)
  and_settles s (Asked t) ts e = refl

  -- between two tokens that are not both names
  and_implied : (s : Standing) (xs ys : List Token) (t : Token) → is_some s.named ≡ false → (ends_with_name xs && is_name t) ≡ false → gives s (xs ++ And ∷ t ∷ ys) ≡ gives s (xs ++ t ∷ ys)
  and_implied s xs ys t none e =
      gives_more xs (And ∷ t ∷ ys) s
      ∙ and_settles (with_tokens names terms s xs) t ys (ap (λ b. b && is_name t) (named_after xs s false none) ∙ e)
      ∙ sym (gives_more xs (t ∷ ys) s)

  -- ---- operators

  by_and : (xs ys : List Token) (v w : Bool) → IsOfAnd xs v → IsPart ys w → IsOfAnd (xs ++ And ∷ ys) (v && w)
  by_and xs ys v w first second odd any all outer ts e =
      ap (gives (standing (frame odd any all) outer)) (joined xs ys ts And)
      ∙ first odd any all outer (And ∷ (ys ++ ts)) refl
      ∙ second (with_part v (frame odd any all)) outer ts e
      ∙ ap (λ b. gives (standing (frame odd any b) outer) ts) (and_both all v w)

  -- with `and` or without it, and none of the names at hand before
  both_sides : (xs ys ts : List Token) (s : Standing) → is_some s.named ≡ false → (ends_with_name xs && begins_with_name ys) ≡ false → unnamed ts ≡ true
      → gives s ((xs ++ ys) ++ ts) ≡ gives s ((xs ++ And ∷ ys) ++ ts)
  both_sides xs [] ts s none e rest =
      ap (gives s) (append_assoc xs [] ts)
      ∙ gives_more xs ts s
      ∙ settle (with_tokens names terms s xs) ts rest
      ∙ sym (gives_more xs (And ∷ ts) s)
      ∙ ap (gives s) (sym (joined xs [] ts And))
  both_sides xs (y ∷ ys) ts s none e rest =
      ap (gives s) (append_assoc xs (y ∷ ys) ts) ∙ sym (and_implied s xs (ys ++ ts) y none e) ∙ ap (gives s) (sym (joined xs (y ∷ ys) ts And))

  by_beside : (xs ys : List Token) (v w : Bool) → IsOfAnd xs v → IsPart ys w → IsOfAnd (beside xs ys) (v && w)
  by_beside xs ys v w first second = by (ends_with_name xs && begins_with_name ys) refl
    where
      by : (names_meet : Bool) → (ends_with_name xs && begins_with_name ys) ≡ names_meet → IsOfAnd (cond names_meet (xs ++ And ∷ ys) (xs ++ ys)) (v && w)
      by true e = by_and xs ys v w first second
      by false e = λ odd any all outer ts rest. both_sides xs ys ts (standing (frame odd any all) outer) refl e rest ∙ by_and xs ys v w first second odd any all outer ts rest

  by_or : (xs ys : List Token) (v w : Bool) → IsOfOr xs v → IsOfAnd ys w → IsOfOr (xs ++ Or ∷ ys) (v || w)
  by_or xs ys v w first second odd any outer ts e =
      ap (gives (standing (frame odd any true) outer)) (joined xs ys ts Or)
      ∙ first odd any outer (Or ∷ (ys ++ ts)) refl
      ∙ second odd (any || v) true outer ts (or_unnamed ts e)
      ∙ same_or (with_part w (frame odd (any || v) true)) (frame odd any (v || w)) outer ts refl (ap (λ b. (any || v) || b) (plain w) ∙ or_more any v w) e

  by_xor : (xs ys : List Token) (v w : Bool) → IsOfXor xs v → IsOfOr ys w → IsOfXor (xs ++ Xor ∷ ys) (differ v w)
  by_xor xs ys v w first second odd outer ts e =
      ap (gives (standing (frame odd false true) outer)) (joined xs ys ts Xor)
      ∙ first odd outer (Xor ∷ (ys ++ ts)) refl
      ∙ second (differ odd v) false outer ts (xor_or ts e)
      ∙ same_xor (frame (differ odd v) false w) (frame odd false (differ v w)) outer ts (differ_more odd v w) e

  -- ---- trees

  record Spells (t : Tree) : Type 0 where
    part : IsPart (spelled 3 t) (holds t)
    both : IsOfAnd (spelled 2 t) (holds t)
    some : IsOfOr (spelled 1 t) (holds t)
    only : IsOfXor (spelled 0 t) (holds t)

  of_part : (t : Tree) → IsPart (spelled 3 t) (holds t) → spelled 2 t ≡ spelled 3 t → spelled 1 t ≡ spelled 3 t → spelled 0 t ≡ spelled 3 t → Spells t
  of_part t part two one zero =
      let and = and_of_part (spelled 3 t) (holds t) part in
      let or = or_of_and (spelled 3 t) (holds t) and in
      record {
        part = part;
        both = subst (λ xs. IsOfAnd xs (holds t)) (sym two) and;
        some = subst (λ xs. IsOfOr xs (holds t)) (sym one) or;
        only = subst (λ xs. IsOfXor xs (holds t)) (sym zero) (xor_of_or (spelled 3 t) (holds t) or);
      }

  name_is_part : (n : Name) (ns : List Name) → IsPart (map Named (n ∷ ns)) (list_any names (n ∷ ns))
  name_is_part n ns f outer ts e = all_names f outer (names n) ns ts ∙ settle (having f outer (names n || list_any names ns)) ts e

  unless_is_part : (xs : List Token) (v : Bool) → IsPart xs v → IsPart (Not ∷ xs) (not v)
  unless_is_part xs v part f outer ts e =
      part (turned f) outer ts e ∙ ap (λ b. gives (standing (frame f.odd f.any (f.all && b)) outer) ts) (differ_not v f.turned)

  spells : (t : Tree) → Spells t
  spells (OneName n ns) = of_part (OneName n ns) (name_is_part n ns) refl refl refl
  spells (Ask t) = of_part (Ask t) (λ f outer ts e. refl) refl refl refl
  spells (Unless a) = of_part (Unless a) (unless_is_part (spelled 3 a) (holds a) (spells a).part) refl refl refl
  spells (Within a) = of_part (Within a) (part_of_xor (spelled 0 a) (holds a) (spells a).only) refl refl refl
  spells (Both a b) =
      let xs = spelled 2 a ++ And ∷ spelled 3 b in
      let v = holds a && holds b in
      let and = by_and (spelled 2 a) (spelled 3 b) (holds a) (holds b) (spells a).both (spells b).part in
      let or = or_of_and xs v and in
      let xor = xor_of_or xs v or in
      record { part = part_of_xor xs v xor; both = and; some = or; only = xor }
  spells (Beside a b) =
      let xs = beside (spelled 2 a) (spelled 3 b) in
      let v = holds a && holds b in
      let and = by_beside (spelled 2 a) (spelled 3 b) (holds a) (holds b) (spells a).both (spells b).part in
      let or = or_of_and xs v and in
      let xor = xor_of_or xs v or in
      record { part = part_of_xor xs v xor; both = and; some = or; only = xor }
  spells (OneAtLeast a b) =
      let xs = spelled 1 a ++ Or ∷ spelled 2 b in
      let v = holds a || holds b in
      let or = by_or (spelled 1 a) (spelled 2 b) (holds a) (holds b) (spells a).some (spells b).both in
      let xor = xor_of_or xs v or in
      let part = part_of_xor xs v xor in
      record { part = part; both = and_of_part (Open ∷ xs ++ Close ∷ []) v part; some = or; only = xor }
  spells (OneOnly a b) =
      let xs = spelled 0 a ++ Xor ∷ spelled 1 b in
      let v = differ (holds a) (holds b) in
      let xor = by_xor (spelled 0 a) (spelled 1 b) (holds a) (holds b) (spells a).only (spells b).some in
      let part = part_of_xor xs v xor in
      let and = and_of_part (Open ∷ xs ++ Close ∷ []) v part in
      record { part = part; both = and; some = or_of_and (Open ∷ xs ++ Close ∷ []) v and; only = xor }

pub trees_hold : TreesHold
unfolding all_hold
trees_hold names terms t =
    ap (gives names terms beginning) (sym (append-nil (spelled 0 t))) ∙ (spells names terms t).only false [] [] refl

pub and_is_implied : AndIsImplied
unfolding all_hold
and_is_implied names terms before after t e = and_implied names terms beginning before after t refl e
