-- A filter that is one `and` holds only if each of its parts does.
use Rattle.std.proofs.Common.{◌≡◌, ℕ, ◌==◌, Bool, true, false, cond, ◌&&◌, ◌||◌, not, List, [], ◌∷◌, length, Option, Some, None, refl, sym, ap, ◌∙◌, arith}
use Rattle.std.proofs.lemmas.Bool.Decides.{nat_tests}
use Rattle.tw_terms.specs.declared.id_word.Name.{Name}
use Rattle.tw_terms.specs.declared.term.Test.{Test}
use Rattle.tw_terms.specs.declared.term.Term.{Term}
use Rattle.tw_terms.specs.declared.token.Token.{Token}
use Rattle.tw_terms.specs.declared.token.Token.TheVariants.{Xor, Or, And, Not, Open, Close, Named, Asked}
use Rattle.tw_filter.specs.declared.evaluation.Frame.{Frame}
use Rattle.tw_filter.specs.Evaluation.{differ, with_part, turned, value, Standing, beginning, with_names, whole_frame, or_named, with_token, with_tokens, all_hold}
use Rattle.tw_filter.specs.Looked.{is_listing, depth_after, joins_otherwise, is_one_and, is_turned_after, listing_here, or_later, first_listing}

-- the frame of what is outside of all brackets
abbrev bottom : Frame → List Frame → Frame
bottom f [] = f
bottom f (g ∷ gs) = bottom g gs

-- nothing but `and` so far
abbrev IsPlain : Frame → Type 0
IsPlain f = (f.odd ≡ false) × (f.any ≡ false)

-- and one of the parts did not hold
abbrev Fails : Frame → Type 0
Fails f = IsPlain f × (f.all ≡ false)

-- what stays so with each part and each `!`
record Stays (P : Frame → Type 0) : Type 0 where
  part : (h : Bool) (f : Frame) → P f → P (with_part h f)
  turn : (f : Frame) → P f → P (turned f)

and_false : (a b : Bool) → a ≡ false → (a && b) ≡ false
and_false a b e = ap (λ x. x && b) e

plain_stays : Stays IsPlain
plain_stays = record { part = λ h f p. p; turn = λ f p. p }

fails_stays : Stays Fails
fails_stays = record { part = λ h f p. (p.0, and_false f.all (differ h f.turned) p.1); turn = λ f p. p }

with_all : {P : Frame → Type 0} → Stays P → (o : Option Bool) (f : Frame) → P f → P (with_names o f)
with_all s None f p = p
with_all s (Some h) f p = s.part h f p

module _ (names : Name → Bool) (terms : Term → Bool) where
  -- after one more token
  abbrev after : Frame → List Frame → Option Bool → Token → Standing
  after inner outer named t = with_token names terms (record { inner = inner; outer = outer; named = named }) t

  stays : {P : Frame → Type 0} → Stays P → (inner : Frame) (outer : List Frame) (named : Option Bool) (t : Token) → P (bottom inner outer) → joins_otherwise (length outer) t ≡ false → P (bottom (after inner outer named t).inner (after inner outer named t).outer)
  stays s inner [] named Xor p e = absurd (cc)
  stays s inner (g ∷ gs) named Xor p e = p
  stays s inner [] named Or p e = absurd (cc)
  stays s inner (g ∷ gs) named Or p e = p
  stays s inner [] named And p e = with_all s named inner p
  stays s inner (g ∷ gs) named And p e = p
  stays s inner [] named Not p e = s.turn (with_names named inner) (with_all s named inner p)
  stays s inner (g ∷ gs) named Not p e = p
  stays s inner [] named Open p e = with_all s named inner p
  stays s inner (g ∷ gs) named Open p e = p
  stays s inner [] named Close p e = absurd (cc)
  stays s inner (g ∷ []) named Close p e = s.part (value (with_names named inner)) g p
  stays s inner (g ∷ h ∷ gs) named Close p e = p
  stays s inner outer named (Named name) p e = p
  stays s inner [] named (Asked term) p e = s.part (terms term) (with_names named inner) (with_all s named inner p)
  stays s inner (g ∷ gs) named (Asked term) p e = p

  depth_so : (inner : Frame) (outer : List Frame) (named : Option Bool) (t : Token) → joins_otherwise (length outer) t ≡ false → length (after inner outer named t).outer ≡ depth_after (length outer) t
  depth_so inner outer named Xor e = refl
  depth_so inner outer named Or e = refl
  depth_so inner outer named And e = refl
  depth_so inner outer named Not e = refl
  depth_so inner outer named Open e = omega arith
  depth_so inner [] named Close e = absurd (cc)
  depth_so inner (g ∷ gs) named Close e = omega arith
  depth_so inner outer named (Named name) e = refl
  depth_so inner outer named (Asked term) e = refl

  and_parts : (a b : Bool) → (not a && b) ≡ true → (a ≡ false) × (b ≡ true)
  and_parts true b e = absurd (cc)
  and_parts false b e = (refl, e)

  failed : (f : Frame) → Fails f → value f ≡ false
  failed f p = (λ i. differ (p.0.0 i) (p.0.1 i || p.1 i))

  -- if a part outside of brackets does not hold, the filter does not
  fails : (inner : Frame) (outer : List Frame) (named : Option Bool) (ts : List Token) → Fails (bottom inner outer) → is_one_and (length outer) ts ≡ true → value (whole_frame (with_tokens names terms (record { inner = inner; outer = outer; named = named }) ts)) ≡ false
  fails inner [] named [] p e = failed (with_names named inner) (with_all fails_stays named inner p)
  fails inner (g ∷ gs) named [] p e = absurd (grind (arith, nat_tests))
  fails inner outer named (t ∷ ts) p e =
      let parts = and_parts (joins_otherwise (length outer) t) (is_one_and (depth_after (length outer) t) ts) e in
      let next = after inner outer named t in
      fails next.inner next.outer next.named ts (stays fails_stays inner outer named t p parts.0)
      (ap (λ d. is_one_and d ts) (depth_so inner outer named t parts.0) ∙ parts.1)

  -- outside of brackets, what comes next is turned round only after `!`
  abbrev IsStraight : Bool → Frame → List Frame → Option Bool → Type 0
  IsStraight is_turned inner outer named = length outer ≡ 0 → is_turned ≡ false → (with_names named inner).turned ≡ false

  named_straight : (o : Option Bool) (h : Bool) (f : Frame) → (with_names (or_named o h) f).turned ≡ false
  named_straight None h f = refl
  named_straight (Some one) h f = refl

  straight : (is_turned : Bool) (inner : Frame) (outer : List Frame) (named : Option Bool) (t : Token) → IsStraight is_turned inner outer named → joins_otherwise (length outer) t ≡ false
      → IsStraight (is_turned_after is_turned t) (after inner outer named t).inner (after inner outer named t).outer (after inner outer named t).named
  straight is_turned inner outer named Xor s e = λ zero not_so. refl
  straight is_turned inner outer named Or s e = λ zero not_so. refl
  straight is_turned inner outer named And s e = s
  straight is_turned inner outer named Not s e = λ zero not_so. absurd (cc)
  straight is_turned inner outer named Open s e = λ zero not_so. absurd (omega arith)
  straight is_turned inner [] named Close s e = absurd (cc)
  straight is_turned inner (g ∷ gs) named Close s e = λ zero not_so. refl
  straight is_turned inner outer named (Named name) s e = λ zero not_so. named_straight named (names name) inner
  straight is_turned inner outer named (Asked term) s e = λ zero not_so. refl

  true_or_false : (b : Bool) → b ≡ false → b ≡ true → ⊥
  true_or_false true e f = absurd (cc)
  true_or_false false e f = absurd (cc)

  ask : Test → Term
  ask test = record { test = test; wanted = true }

  asked_is : (is_part wanted listed : Bool) (test other : Test) → cond (is_part && wanted && listed) (Some test) None ≡ Some other → (is_part ≡ true) × (wanted ≡ true) × (listed ≡ true) × (test ≡ other)
  asked_is true true true test other e = (refl, refl, refl, cc)
  asked_is true true false test other e = absurd (cc)
  asked_is true false listed test other e = absurd (cc)
  asked_is false wanted listed test other e = absurd (cc)

  and_false_right : (a b : Bool) → b ≡ false → (a && b) ≡ false
  and_false_right true b e = e
  and_false_right false b e = refl

  left_so : (a b : Bool) → (a && b) ≡ true → a ≡ true
  left_so true b e = refl
  left_so false b e = e

  not_turned : (b : Bool) → not b ≡ true → b ≡ false
  not_turned true e = absurd (cc)
  not_turned false e = refl

  -- after a part that lists tasks and does not hold
  here_fails : (inner : Frame) (outer : List Frame) (named : Option Bool) (is_turned : Bool) (t : Token) (test : Test) → IsPlain (bottom inner outer) → IsStraight is_turned inner outer named → listing_here (length outer) is_turned t ≡ Some test
      → terms (record { test = test; wanted = true }) ≡ false → Fails (bottom (after inner outer named t).inner (after inner outer named t).outer)
  here_fails inner outer named is_turned Xor test p s found not_so = absurd (cc)
  here_fails inner outer named is_turned Or test p s found not_so = absurd (cc)
  here_fails inner outer named is_turned And test p s found not_so = absurd (cc)
  here_fails inner outer named is_turned Not test p s found not_so = absurd (cc)
  here_fails inner outer named is_turned Open test p s found not_so = absurd (cc)
  here_fails inner outer named is_turned Close test p s found not_so = absurd (cc)
  here_fails inner outer named is_turned (Named name) test p s found not_so = absurd (cc)
  here_fails inner (g ∷ gs) named is_turned (Asked term) test p s found not_so =
      let is = asked_is ((length (g ∷ gs) == 0) && not is_turned) term.wanted (is_listing term.test) term.test test found in
      let zero = left_so (length (g ∷ gs) == 0) (not is_turned) is.0 in
      absurd (grind (arith, nat_tests))
  here_fails inner [] named is_turned (Asked term) test p s found not_so =
      let is = asked_is (not is_turned) term.wanted (is_listing term.test) term.test test found in
      let same : term ≡ record { test = test; wanted = true } = (λ i. record { test = is.3 i; wanted = is.1 i }) in
      let plain = with_all plain_stays named inner p in
      let straight = s refl (not_turned is_turned is.0) in
      (plain, and_false_right (with_names named inner).all (differ (terms term) (with_names named inner).turned) (λ i. differ ((ap terms same ∙ not_so) i) (straight i)))

  one_of : (b : Bool) → (b ≡ false → false ≡ true) → b ≡ true
  one_of true f = refl
  one_of false f = f refl

  first_holds : (inner : Frame) (outer : List Frame) (named : Option Bool) (is_turned : Bool) (ts : List Token) (test : Test) → IsPlain (bottom inner outer) → IsStraight is_turned inner outer named → first_listing (length outer) is_turned ts ≡ Some test
      → is_one_and (length outer) ts ≡ true → value (whole_frame (with_tokens names terms (record { inner = inner; outer = outer; named = named }) ts)) ≡ true → terms (record { test = test; wanted = true }) ≡ true
  first_holds inner outer named is_turned [] test p s found e so = absurd (cc)
  first_holds inner outer named is_turned (t ∷ ts) test p s found e so =
      let parts = and_parts (joins_otherwise (length outer) t) (is_one_and (depth_after (length outer) t) ts) e in
      let next = after inner outer named t in
      let depth = depth_so inner outer named t parts.0 in
      let one = ap (λ d. is_one_and d ts) depth ∙ parts.1 in
      by (listing_here (length outer) is_turned t) refl found
      (λ there. one_of (terms (record { test = test; wanted = true })) (λ not_so. sym (fails next.inner next.outer next.named ts (here_fails inner outer named is_turned t test p s there not_so) one) ∙ so))
      (λ later. first_holds next.inner next.outer next.named (is_turned_after is_turned t) ts test (stays plain_stays inner outer named t p parts.0) (straight is_turned inner outer named t s parts.0)
      (ap (λ d. first_listing d (is_turned_after is_turned t) ts) depth ∙ later) one so)
    where
      by : (o : Option Test) → listing_here (length outer) is_turned t ≡ o → or_later o (first_listing (depth_after (length outer) t) (is_turned_after is_turned t) ts) ≡ Some test
          → (listing_here (length outer) is_turned t ≡ Some test → terms (record { test = test; wanted = true }) ≡ true)
          → (first_listing (depth_after (length outer) t) (is_turned_after is_turned t) ts ≡ Some test → terms (record { test = test; wanted = true }) ≡ true)
          → terms (record { test = test; wanted = true }) ≡ true
      by None is found here later = later found
      by (Some other) is found here later = here (is ∙ found)

  -- if a filter holds, the part that lists its tasks does
  pub part_holds : (tokens : List Token) (test : Test) → is_one_and 0 tokens ≡ true → first_listing 0 false tokens ≡ Some test → all_hold names terms tokens ≡ true → terms (record { test = test; wanted = true }) ≡ true
  unfolding all_hold
  part_holds tokens test one found so = first_holds beginning.inner [] None false tokens test (refl, refl) (λ zero not_so. refl) found one so

-- the test that is found lists tasks
is_listing_here : (depth : ℕ) (is_turned : Bool) (t : Token) (test : Test) → listing_here depth is_turned t ≡ Some test → is_listing test ≡ true
is_listing_here depth is_turned Xor test e = absurd (cc)
is_listing_here depth is_turned Or test e = absurd (cc)
is_listing_here depth is_turned And test e = absurd (cc)
is_listing_here depth is_turned Not test e = absurd (cc)
is_listing_here depth is_turned Open test e = absurd (cc)
is_listing_here depth is_turned Close test e = absurd (cc)
is_listing_here depth is_turned (Named name) test e = absurd (cc)
is_listing_here depth is_turned (Asked term) test e = by ((depth == 0) && not is_turned) term.wanted (is_listing term.test) refl e
  where
    by : (a b c : Bool) → is_listing term.test ≡ c → cond (a && b && c) (Some term.test) None ≡ Some test → is_listing test ≡ true
    by true true true is e = (let same : term.test ≡ test = cc in ap is_listing (sym same) ∙ is)
    by true true false is e = absurd (cc)
    by true false c is e = absurd (cc)
    by false b c is e = absurd (cc)

pub found_lists : (depth : ℕ) (is_turned : Bool) (ts : List Token) (test : Test) → first_listing depth is_turned ts ≡ Some test → is_listing test ≡ true
found_lists depth is_turned [] test e = absurd (cc)
found_lists depth is_turned (t ∷ ts) test e = by (listing_here depth is_turned t) refl e (found_lists (depth_after depth t) (is_turned_after is_turned t) ts test)
  where
    by : (o : Option Test) → listing_here depth is_turned t ≡ o → or_later o (first_listing (depth_after depth t) (is_turned_after is_turned t) ts) ≡ Some test
        → (first_listing (depth_after depth t) (is_turned_after is_turned t) ts ≡ Some test → is_listing test ≡ true) → is_listing test ≡ true
    by None is found later = later found
    by (Some other) is found later = is_listing_here depth is_turned t test (is ∙ found)
