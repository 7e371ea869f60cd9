-- Filters that are names alone, and what names stand for.
use Rattle.std.proofs.Common.{◌≡◌, ℕ, suc, ◌+◌, ◌-◌, ◌<◌, ◌≤◌, nat_le, Bool, true, false, cond, not, ◌&&◌, ◌||◌, List, [], ◌∷◌, length, take, drop, get_or, Option, Some, None, Result, Ok, Err, IfOk, OnOk, refl, sym, ap, ◌∙◌, arith, ◌==◌}
use Rattle.std.proofs.lemmas.List.{drop_more, take_more, get_or_read}
use Rattle.std.proofs.lemmas.List.Folds.{list_any-append}
use Rattle.std.proofs.lemmas.Bool.Decides.{nat_tests}
use Rattle.std.specs.List.{list_any, list_all}
use Rattle.std.specs.Ordering.{eq_by_cmp}
use Rattle.std.specs.Cmp.Lexicographic.{texts_ties}
use Rattle.std.specs.FinMap.{get}
use Rattle.tw_model.specs.Maps.{bytes_cmp, same_bytes}
use Rattle.tw_model.proofs.Maps.{same_bytes_back}
use Rattle.tw_model.specs.Ops.{TaskValue}
use Rattle.tw_model.specs.Places.{Places, has_uuid, id_from, id_of}
use Rattle.tw_urgency.specs.Dependencies.{is_that}
use Rattle.tw_filter.specs.Evaluation.{fresh, value, whole_frame, with_tokens, all_hold}
use Rattle.tw_terms.specs.Tokens.{is_name}
use Rattle.tw_terms.specs.Scenes.{Scene}
use Rattle.tw_terms.specs.Holds.{passes, name_holds, term_holds}
use Rattle.tw_filter.specs.Selected.{holds_there, holds, are_names}
use Rattle.tw_filter.specs.NamedTasks.{names_number, uuid_in, names, AreFlags}
use Rattle.tw_terms.specs.declared.id_word.Name.{Name}
use Rattle.tw_terms.specs.declared.id_word.Name.TheVariants.{Numbers, One}
use Rattle.tw_terms.specs.declared.term.Term.{Term}
use Rattle.tw_terms.specs.declared.token.Token.{Token}
use Rattle.tw_terms.specs.declared.token.Token.TheVariants.{Xor, Or, And, Not, Open, Close, Named, Asked}

-- ---- truth

or_more : (a b c : Bool) → ((a || b) || c) ≡ (a || (b || c))
or_more true b c = refl
or_more false b c = refl

or_none : (a : Bool) → (a || false) ≡ a
or_none true = refl
or_none false = refl

middle : (a b c d : Bool) → ((a || b) || (c || d)) ≡ ((a || c) || (b || d))
middle true b c d = refl
middle false true true d = refl
middle false true false d = refl
middle false false true d = refl
middle false false false d = refl

either : {X : Type 0} (p q : X → Bool) (xs : List X) → (list_any p xs || list_any q xs) ≡ list_any (λ x. p x || q x) xs
either p q [] = refl
either p q (x ∷ xs) = middle (p x) (list_any p xs) (q x) (list_any q xs) ∙ ap (λ b. (p x || q x) || b) (either p q xs)

alike : {X : Type 0} (p q : X → Bool) → ((x : X) → p x ≡ q x) → (xs : List X) → list_any p xs ≡ list_any q xs
alike p q same [] = refl
alike p q same (x ∷ xs) = λ i. same x i || alike p q same xs i

never : {X : Type 0} (xs : List X) → list_any (λ x. false) xs ≡ false
never [] = refl
never (x ∷ xs) = never xs

-- ---- names alone

pub all_more : (ts : List Token) (i : ℕ) (t : Token) → i < length ts → t ≡ get_or ts i t → list_all is_name (drop i ts) ≡ (is_name t && list_all is_name (drop (i + 1) ts))
all_more ts i t lt here = ap (list_all is_name) (drop_more ts i t lt) ∙ ap (λ x. is_name x && list_all is_name (drop (i + 1) ts)) (sym here)

pub any_more : (p : Token → Bool) (ts : List Token) (i : ℕ) (t : Token) → i < length ts → t ≡ get_or ts i t → list_any p (take (i + 1) ts) ≡ (list_any p (take i ts) || p t)
any_more p ts i t lt here =
    ap (list_any p) (take_more ts i t lt) ∙ list_any-append p (take i ts) (get_or ts i t ∷ [])
    ∙ ap (λ x. list_any p (take i ts) || (p x || false)) (sym here)
    ∙ ap (λ b. list_any p (take i ts) || b) (or_none (p t))

pub not_names : (ts : List Token) → list_all is_name ts ≡ false → false ≡ are_names ts
not_names [] e = refl
not_names (t ∷ ts) e = sym e

pub are_all_names : (ts : List Token) (b : Bool) → list_all is_name ts ≡ true → b ≡ (length ts == 0) → not b ≡ are_names ts
are_all_names [] b e is = ap not is
are_all_names (t ∷ ts) b e is = by b is ∙ sym e
  where
    by : (b : Bool) → b ≡ (suc (length ts) == 0) → not b ≡ true
    by true e = absurd (grind (arith, nat_tests))
    by false e = refl

-- ---- what names alone hold for

abbrev named_by : (Name → Bool) → Token → Bool
named_by held (Named n) = held n
named_by held _ = false

hold_on : (held : Name → Bool) (terms : Term → Bool) (b : Bool) (ts : List Token) → list_all is_name ts ≡ true
    → value (whole_frame (with_tokens held terms (record { inner = fresh; outer = []; named = Some b }) ts)) ≡ (b || list_any (named_by held) ts)
hold_on held terms true [] e = refl
hold_on held terms false [] e = refl
hold_on held terms b (Named n ∷ ts) e = hold_on held terms (b || held n) ts e ∙ or_more b (held n) (list_any (named_by held) ts)
hold_on held terms b (Xor ∷ ts) e = absurd (cc)
hold_on held terms b (Or ∷ ts) e = absurd (cc)
hold_on held terms b (And ∷ ts) e = absurd (cc)
hold_on held terms b (Not ∷ ts) e = absurd (cc)
hold_on held terms b (Open ∷ ts) e = absurd (cc)
hold_on held terms b (Close ∷ ts) e = absurd (cc)
hold_on held terms b (Asked t ∷ ts) e = absurd (cc)

names_hold : (held : Name → Bool) (terms : Term → Bool) (ts : List Token) → are_names ts ≡ true → all_hold held terms ts ≡ list_any (named_by held) ts
unfolding all_hold
names_hold held terms [] e = absurd (cc)
names_hold held terms (Named n ∷ ts) e = hold_on held terms (held n) ts e
names_hold held terms (Xor ∷ ts) e = absurd (cc)
names_hold held terms (Or ∷ ts) e = absurd (cc)
names_hold held terms (And ∷ ts) e = absurd (cc)
names_hold held terms (Not ∷ ts) e = absurd (cc)
names_hold held terms (Open ∷ ts) e = absurd (cc)
names_hold held terms (Close ∷ ts) e = absurd (cc)
names_hold held terms (Asked t ∷ ts) e = absurd (cc)

named_is : (scene : Scene) (u : List ℕ) (t : Token) → named_by (name_holds scene u) t ≡ names scene.places u t
named_is scene u (Named (Numbers first last)) = refl
named_is scene u (Named (One v)) = refl
named_is scene u Xor = refl
named_is scene u Or = refl
named_is scene u And = refl
named_is scene u Not = refl
named_is scene u Open = refl
named_is scene u Close = refl
named_is scene u (Asked t) = refl

-- a filter of names alone holds for a task that is there where one of them names it
pub holds_named : (scene : Scene) (ts : List Token) (u : List ℕ) (task : TaskValue) → are_names ts ≡ true → get scene.tasks u ≡ Some task → holds scene ts u ≡ list_any (names scene.places u) ts
holds_named scene ts u task only there =
    ap (holds_there scene ts u) there ∙ names_hold (name_holds scene u) (term_holds scene u task) ts only ∙ alike _ _ (named_is scene u) ts

-- ---- flags

pub same_key : (u v : List ℕ) → eq_by_cmp bytes_cmp v u ≡ same_bytes u v
same_key u v = sym (texts_ties v u) ∙ same_bytes_back v u

-- a number is within those of its places
numbered_within : (n m : ℕ) (u : List ℕ) (places : Places) → id_from n u places ≡ Some m → (n ≤ m) × (m < n + length places)
numbered_within n m u [] e = absurd (cc)
numbered_within n m u (place ∷ places) e = by (has_uuid u place) e (numbered_within (n + 1) m u places)
  where
    by : (b : Bool) → cond b (Some n) (id_from (n + 1) u places) ≡ Some m → (id_from (n + 1) u places ≡ Some m → (n + 1 ≤ m) × (m < n + 1 + length places)) → (n ≤ m) × (m < n + suc (length places))
    by true is rest = let here : n ≡ m = cc in (omega arith, omega arith)
    by false is rest = let there : (n + 1 ≤ m) × (m < n + 1 + length places) = rest is in (omega arith, omega arith)

-- flags by the numbers and the uuids themselves are what tokens name
pub flags_and_uuids : (places : Places) (u : List ℕ) (ts : List Token) (flags : List Bool) → length flags ≡ length places → AreFlags ts flags
    → (passes (λ id. get_or flags (id - 1) false) (id_of u places) || list_any (λ t. is_that u (uuid_in t)) ts) ≡ list_any (names places u) ts
flags_and_uuids places u ts flags long are = by (id_of u places) refl
  where
    none : (t : Token) (o : id_of u places ≡ None) → is_that u (uuid_in t) ≡ names places u t
    none (Named (Numbers first last)) o = sym (ap (passes (λ id. nat_le first id && nat_le id last)) o)
    none (Named (One v)) o = refl
    none Xor o = refl
    none Or o = refl
    none And o = refl
    none Not o = refl
    none Open o = refl
    none Close o = refl
    none (Asked t) o = refl

    some : (n : ℕ) (t : Token) (o : id_of u places ≡ Some n) → (names_number n t || is_that u (uuid_in t)) ≡ names places u t
    some n (Named (Numbers first last)) o = or_none _ ∙ sym (ap (passes (λ id. nat_le first id && nat_le id last)) o)
    some n (Named (One v)) o = refl
    some n Xor o = refl
    some n Or o = refl
    some n And o = refl
    some n Not o = refl
    some n Open o = refl
    some n Close o = refl
    some n (Asked t) o = refl

    by : (o : Option ℕ) → id_of u places ≡ o → (passes (λ id. get_or flags (id - 1) false) (id_of u places) || list_any (λ t. is_that u (uuid_in t)) ts) ≡ list_any (names places u) ts
    by None is = ap (λ o. passes (λ id. get_or flags (id - 1) false) o || list_any (λ t. is_that u (uuid_in t)) ts) is ∙ alike _ _ (λ t. none t is) ts
    by (Some n) is =
        let within = numbered_within 1 n u places is in
        let before : n - 1 < length flags = omega arith in
        let back : n - 1 + 1 ≡ n = omega arith in
        ap (λ o. passes (λ id. get_or flags (id - 1) false) o || list_any (λ t. is_that u (uuid_in t)) ts) is
        ∙ ap (λ b. b || list_any (λ t. is_that u (uuid_in t)) ts) (are (n - 1) before ∙ ap (λ k. list_any (names_number k) ts) back)
        ∙ either (names_number n) (λ t. is_that u (uuid_in t)) ts
        ∙ alike _ _ (λ t. some n t is) ts

-- one place more, from the last to the first
pub place_before : (flags : List Bool) (places : Places) (u : List ℕ) (at : ℕ) (place : Option (List ℕ)) (flag was : Bool) → at < length places → place ≡ get_or places at place → flag ≡ get_or flags at flag → length flags ≡ length places
    → was ≡ passes (λ id. get_or flags (id - 1) false) (id_from (at + 1 + 1) u (drop (at + 1) places))
    → cond (has_uuid u place) flag was ≡ passes (λ id. get_or flags (id - 1) false) (id_from (at + 1) u (drop at places))
place_before flags places u at place flag was lt here set long so_far =
    let next : drop at places ≡ place ∷ drop (at + 1) places = drop_more places at place lt ∙ ap (λ (p : Option (List ℕ)). p ∷ drop (at + 1) places) (sym here) in
    by (has_uuid u place) ∙ ap (λ ps. passes (λ id. get_or flags (id - 1) false) (id_from (at + 1) u ps)) (sym next)
  where
    read : flag ≡ get_or flags (at + 1 - 1) false
    read = get_or_read flags at flag (omega arith) set false ∙ ap (λ k. get_or flags k false) (let e : at ≡ at + 1 - 1 = omega arith in e)

    by : (b : Bool) → cond b flag was ≡ passes (λ id. get_or flags (id - 1) false) (cond b (Some (at + 1)) (id_from (at + 1 + 1) u (drop (at + 1) places)))
    by true = read
    by false = so_far

pub if_ok_with : {A E R : Type 0} {P Q : A → Type 0} (r : Result A E) → ((x : A) → R → P x → Q x) → OnOk r R → IfOk r P → IfOk r Q
if_ok_with (Ok x) f on p = f x on p
if_ok_with (Err e) f on p = p
