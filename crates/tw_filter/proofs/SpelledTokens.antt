-- Tokens that are read to the end spell a tree: what is read so far is kept as the parts of each open bracket.
use Rattle.std.proofs.Common.{◌≡◌, inl, inr, ℕ, ◌+◌, ◌-◌, ◌<◌, ◌≤◌, ◌==◌, nat_le, Bool, true, false, cond, ◌&&◌, List, [], ◌∷◌, ◌++◌, map, length, Err, append_assoc, append-nil, refl, sym, ap, subst, ◌∙◌, arith}
use Rattle.std.proofs.lemmas.Bool.Decides.{nat_tests}
use Rattle.std.proofs.lemmas.List.{map-append}
use Rattle.tw_terms.specs.declared.bad_word.WordKind.TheVariants as bad
use Rattle.tw_terms.specs.declared.id_word.Name.{Name}
use Rattle.tw_terms.specs.declared.token.Token.{Token}
use Rattle.tw_terms.specs.declared.token.Token.TheVariants.{Xor, Or, And, Not, Open, Close, Named, Asked}
use Rattle.tw_filter.specs.declared.grammar.Behind.{Behind}
use Rattle.tw_filter.specs.declared.grammar.Behind.TheVariants.{Nothing, Bracket, Mark, Part}
use Rattle.tw_filter.specs.Grammar.{at, run, run_from}
use Rattle.tw_terms.specs.Tokens.{is_name}
use Rattle.tw_filter.specs.Trees.{ends_with_name, is_at_end, are_read, ReadIsSpelled}
use Rattle.tw_filter.proofs.ReadTrees.{place}
use Rattle.tw_filter.proofs.TreeFronts.{Spells, part_is_both, both_is_any, any_is_odd, names_spell, term_spells, beside_spell, FrontOfXor, FrontOfOr, FrontOfPart, FrontOfNames, FrontOfBracket, behind_xor, behind_or, behind_and, no_name, behind_part_not, behind_not, behind_part_open, behind_open, last_of_more, last_of_brackets}

-- ---- where tokens have come

-- the parts in one bracket before what is at hand
record Parts : Type 0 where
  of_xor : List Token
  of_or : List Token
  of_and : List Token

-- what is at hand: a front that waits for a part, names behind a front, or parts of `and` that end with no name
data Hand : Type 0 where
  Waits : Behind → List Token → Hand
  Names : List Token → Name → List Name → Hand
  Ends : List Token → Hand

abbrev tokens_in : Hand → List Token
tokens_in (Waits behind front) = front
tokens_in (Names front n ns) = front ++ map Named (n ∷ ns)
tokens_in (Ends xs) = xs

abbrev behind_in : Hand → Behind
behind_in (Waits behind front) = behind
behind_in (Names front n ns) = Part
behind_in (Ends xs) = Part

abbrev is_waiting : Behind → Bool
is_waiting Nothing = false
is_waiting Bracket = true
is_waiting Mark = true
is_waiting Part = false

-- the tokens before each open bracket, the innermost first
abbrev before_brackets : List Parts → List Token
before_brackets [] = []
before_brackets (p ∷ ps) = before_brackets ps ++ (p.of_xor ++ (p.of_or ++ (p.of_and ++ Open ∷ [])))

abbrev room_in : List Parts → ℕ
room_in ps = 100 - length ps

abbrev AreFronts : List Parts → Type 0
AreFronts [] = Unit {0}
AreFronts (p ∷ ps) = AreFronts ps × FrontOfXor (room_in ps) p.of_xor × FrontOfOr (room_in ps) p.of_or × FrontOfBracket (room_in (p ∷ ps)) (room_in ps) p.of_and

abbrev Fits : ℕ → Hand → Type 0
Fits room (Waits behind front) = (is_waiting behind ≡ true) × FrontOfPart room front
Fits room (Names front n ns) = FrontOfNames room front
Fits room (Ends xs) = Spells 2 room xs × (ends_with_name xs ≡ false)

-- all before what is at hand
record Left : Type 0 where
  outer : List Parts
  of_xor : List Token
  of_or : List Token
  outside : AreFronts outer
  xors : FrontOfXor (room_in outer) of_xor
  ors : FrontOfOr (room_in outer) of_or

abbrev tokens_left : Left → List Token → List Token
tokens_left l xs = before_brackets l.outer ++ (l.of_xor ++ (l.of_or ++ xs))

abbrev goes_on : Left → Behind → List Token → Bool
goes_on l behind ts = is_at_end (run (place (length l.outer) behind) ts)

-- ---- one token more

behind_hand : (outer x o xs ys : List Token) → outer ++ (x ++ (o ++ (xs ++ ys))) ≡ (outer ++ (x ++ (o ++ xs))) ++ ys
behind_hand outer x o xs ys = simp append_assoc

xor_behind : (outer x o xs : List Token) → outer ++ (((x ++ (o ++ xs)) ++ Xor ∷ []) ++ []) ≡ (outer ++ (x ++ (o ++ xs))) ++ Xor ∷ []
xor_behind outer x o xs = simp (append_assoc, append-nil)

or_behind : (outer x o xs : List Token) → outer ++ (x ++ (((o ++ xs) ++ Or ∷ []) ++ [])) ≡ (outer ++ (x ++ (o ++ xs))) ++ Or ∷ []
or_behind outer x o xs = simp (append_assoc, append-nil)

open_behind : (outer x o xs : List Token) → (outer ++ (x ++ (o ++ (xs ++ Open ∷ [])))) ++ [] ≡ (outer ++ (x ++ (o ++ xs))) ++ Open ∷ []
open_behind outer x o xs = simp (append_assoc, append-nil)

close_behind : (outer px po pa c : List Token) → outer ++ (px ++ (po ++ (pa ++ (Open ∷ c ++ Close ∷ [])))) ≡ ((outer ++ (px ++ (po ++ (pa ++ Open ∷ [])))) ++ c) ++ Close ∷ []
close_behind outer px po pa c = simp append_assoc

record Step (read : List Token) (t : Token) (ts : List Token) : Type 0 where
  left : Left
  hand : Hand
  fits : Fits (room_in left.outer) hand
  more : tokens_left left (tokens_in hand) ≡ read ++ t ∷ []
  on : goes_on left (behind_in hand) ts ≡ true

-- the innermost bracket's parts of `xor`, whole
xor_whole : (l : Left) (xs : List Token) → Spells 2 (room_in l.outer) xs → Spells 0 (room_in l.outer) (l.of_xor ++ (l.of_or ++ xs))
xor_whole l xs h = l.xors (l.of_or ++ xs) (l.ors xs h)

stays : (l : Left) (hand : Hand) (xs : List Token) (t : Token) (ts : List Token) → Fits (room_in l.outer) hand → tokens_in hand ≡ xs ++ t ∷ [] → goes_on l (behind_in hand) ts ≡ true → Step (tokens_left l xs) t ts
stays l hand xs t ts fits is on = record { left = l; hand = hand; fits = fits; more = ap (tokens_left l) is ∙ behind_hand (before_brackets l.outer) l.of_xor l.of_or xs (t ∷ []); on = on }

by_xor : (l : Left) (xs ts : List Token) → Spells 2 (room_in l.outer) xs → goes_on l Mark ts ≡ true → Step (tokens_left l xs) Xor ts
by_xor l xs ts h on = record {
  left = record {
    outer = l.outer;
    of_xor = (l.of_xor ++ (l.of_or ++ xs)) ++ Xor ∷ [];
    of_or = [];
    outside = l.outside;
    xors = behind_xor (room_in l.outer) (l.of_xor ++ (l.of_or ++ xs)) (xor_whole l xs h);
    ors = both_is_any (room_in l.outer);
  };
  hand = Waits Mark [];
  fits = (refl, part_is_both (room_in l.outer));
  more = xor_behind (before_brackets l.outer) l.of_xor l.of_or xs;
  on = on;
}

by_or : (l : Left) (xs ts : List Token) → Spells 2 (room_in l.outer) xs → goes_on l Mark ts ≡ true → Step (tokens_left l xs) Or ts
by_or l xs ts h on = record {
  left = record {
    outer = l.outer;
    of_xor = l.of_xor;
    of_or = (l.of_or ++ xs) ++ Or ∷ [];
    outside = l.outside;
    xors = l.xors;
    ors = behind_or (room_in l.outer) (l.of_or ++ xs) (l.ors xs h);
  };
  hand = Waits Mark [];
  fits = (refl, part_is_both (room_in l.outer));
  more = or_behind (before_brackets l.outer) l.of_xor l.of_or xs;
  on = on;
}

-- a bracket is open: there is room for it
abbrev more_parts : Left → List Token → List Parts
more_parts l front = record { of_xor = l.of_xor; of_or = l.of_or; of_and = front } ∷ l.outer

opened : (l : Left) (front ts : List Token) → length l.outer < 100 → FrontOfBracket (room_in (more_parts l front)) (room_in l.outer) front
    → is_at_end (run (place (length l.outer + 1) Bracket) ts) ≡ true → Step (tokens_left l front) Open ts
opened l front ts less waits on =
    let deep : length l.outer + 1 ≡ length (more_parts l front) = omega arith in
    record {
      left = record {
        outer = more_parts l front;
        of_xor = [];
        of_or = [];
        outside = (l.outside, l.xors, l.ors, waits);
        xors = any_is_odd (room_in (more_parts l front));
        ors = both_is_any (room_in (more_parts l front));
      };
      hand = Waits Bracket [];
      fits = (refl, part_is_both (room_in (more_parts l front)));
      more = open_behind (before_brackets l.outer) l.of_xor l.of_or front;
      on = ap (λ depth. is_at_end (run (place depth Bracket) ts)) (sym deep) ∙ on;
    }

by_open : (l : Left) (front ts : List Token) → (room_in (more_parts l front) + 1 ≤ room_in l.outer → FrontOfBracket (room_in (more_parts l front)) (room_in l.outer) front)
    → (full : Bool) → nat_le 100 (length l.outer) ≡ full
    → is_at_end (run_from (cond full (Err bad.Bracket) (at (length l.outer + 1) Bracket)) (λ q. run q ts)) ≡ true → Step (tokens_left l front) Open ts
by_open l front ts waits true e on = absurd (cc)
by_open l front ts waits false e on =
    let less : length l.outer < 100 = grind (arith, nat_tests) in
    let fits : room_in (more_parts l front) + 1 ≤ room_in l.outer = omega arith in
    opened l front ts less (waits fits) on

-- a bracket is closed
closed_in : (outer : List Parts) (of_xor of_or xs ts : List Token) → AreFronts outer → Spells 0 (room_in outer) (of_xor ++ (of_or ++ xs)) → (none : Bool) → (length outer == 0) ≡ none
    → is_at_end (run_from (cond none (Err bad.Bracket) (at (length outer - 1) Part)) (λ q. run q ts)) ≡ true
    → Step (before_brackets outer ++ (of_xor ++ (of_or ++ xs))) Close ts
closed_in outer of_xor of_or xs ts outside h true e on = absurd (cc)
closed_in [] of_xor of_or xs ts outside h false e on = absurd (first_of (cc, grind (arith, nat_tests)))
closed_in (p ∷ ps) of_xor of_or xs ts outside h false e on =
    let c = of_xor ++ (of_or ++ xs) in
    let less : length (p ∷ ps) - 1 ≡ length ps = omega arith in
    record {
      left = record { outer = ps; of_xor = p.of_xor; of_or = p.of_or; outside = outside.0; xors = outside.1; ors = outside.2 };
      hand = Ends (p.of_and ++ (Open ∷ c ++ Close ∷ []));
      fits = (outside.3 c h, last_of_brackets p.of_and c);
      more = close_behind (before_brackets ps) p.of_xor p.of_or p.of_and c;
      on = ap (λ depth. is_at_end (run (place depth Part) ts)) (sym less) ∙ on;
    }

-- behind a part, a token that is no name
after_part : (l : Left) (xs : List Token) (t : Token) (ts : List Token) → Spells 2 (room_in l.outer) xs → is_name t ≡ false → goes_on l Part (t ∷ ts) ≡ true → Step (tokens_left l xs) t ts
after_part l xs Xor ts h e on = by_xor l xs ts h on
after_part l xs Or ts h e on = by_or l xs ts h on
after_part l xs And ts h e on = stays l (Waits Mark (xs ++ And ∷ [])) xs And ts (refl, behind_and (room_in l.outer) xs h) refl on
after_part l xs Not ts h e on = stays l (Waits Mark (xs ++ Not ∷ [])) xs Not ts (refl, behind_part_not (room_in l.outer) xs h) refl on
after_part l xs Open ts h e on =
    by_open l xs ts (λ fits. behind_part_open (room_in (more_parts l xs)) (room_in l.outer) xs fits h) (nat_le 100 (length l.outer)) refl on
after_part l xs Close ts h e on = closed_in l.outer l.of_xor l.of_or xs ts l.outside (xor_whole l xs h) (length l.outer == 0) refl on
after_part l xs (Named n) ts h e on = absurd (cc)
after_part l xs (Asked t) ts h e on =
    stays l (Ends (xs ++ Asked t ∷ [])) xs (Asked t) ts
    (beside_spell (room_in l.outer) xs (Asked t ∷ []) (no_name (ends_with_name xs)) h (term_spells (room_in l.outer) t), last_of_more xs [] (Asked t) false) refl on

-- where a part is needed
while_waiting : (l : Left) (behind : Behind) (front : List Token) (t : Token) (ts : List Token) → is_waiting behind ≡ true → FrontOfPart (room_in l.outer) front
    → goes_on l behind (t ∷ ts) ≡ true → Step (tokens_left l front) t ts
while_waiting l Nothing front t ts waits h on = absurd (cc)
while_waiting l Part front t ts waits h on = absurd (cc)
while_waiting l behind front Not ts waits h on = stays l (Waits Mark (front ++ Not ∷ [])) front Not ts (refl, behind_not (room_in l.outer) front h) refl on
while_waiting l behind front Open ts waits h on =
    by_open l front ts (λ fits. behind_open (room_in (more_parts l front)) (room_in l.outer) front fits h) (nat_le 100 (length l.outer)) refl on
while_waiting l behind front (Named n) ts waits h on =
    stays l (Names front n []) front (Named n) ts (λ m ms. h (map Named (m ∷ ms)) (names_spell (room_in l.outer) m ms)) refl on
while_waiting l behind front (Asked t) ts waits h on =
    stays l (Ends (front ++ Asked t ∷ [])) front (Asked t) ts (h (Asked t ∷ []) (term_spells (room_in l.outer) t), last_of_more front [] (Asked t) false) refl on
while_waiting l Bracket front Xor ts waits h on = absurd (cc)
while_waiting l Bracket front Or ts waits h on = absurd (cc)
while_waiting l Bracket front And ts waits h on = absurd (cc)
while_waiting l Mark front Xor ts waits h on = absurd (cc)
while_waiting l Mark front Or ts waits h on = absurd (cc)
while_waiting l Mark front And ts waits h on = absurd (cc)
while_waiting l Bracket front Close ts waits h on = no_close (length l.outer == 0) on
  where
    no_close : (none : Bool) → is_at_end (run_from (cond none (Err bad.Bracket) (Err bad.Bracket)) (λ q. run q ts)) ≡ true → Step (tokens_left l front) Close ts
    no_close true on = absurd (cc)
    no_close false on = absurd (cc)
while_waiting l Mark front Close ts waits h on = no_close (length l.outer == 0) on
  where
    no_close : (none : Bool) → is_at_end (run_from (cond none (Err bad.Bracket) (Err bad.Value)) (λ q. run q ts)) ≡ true → Step (tokens_left l front) Close ts
    no_close true on = absurd (cc)
    no_close false on = absurd (cc)

-- behind names, one more of them is one more of the same part
after_names : (l : Left) (front : List Token) (n : Name) (ns : List Name) (t : Token) (ts : List Token) (named : Bool) → is_name t ≡ named → FrontOfNames (room_in l.outer) front
    → goes_on l Part (t ∷ ts) ≡ true → Step (tokens_left l (front ++ map Named (n ∷ ns))) t ts
after_names l front n ns t ts false e h on = after_part l (front ++ map Named (n ∷ ns)) t ts (h n ns) e on
after_names l front n ns (Named m) ts true e h on =
    stays l (Names front n (ns ++ m ∷ [])) (front ++ map Named (n ∷ ns)) (Named m) ts h
    (ap (λ xs. front ++ Named n ∷ xs) (map-append Named ns (m ∷ [])) ∙ sym (append_assoc front (map Named (n ∷ ns)) (Named m ∷ []))) on
after_names l front n ns t ts true e h on = absurd (cc)

-- behind what ends with no name, a name begins a part
after_end : (l : Left) (xs : List Token) (t : Token) (ts : List Token) (named : Bool) → is_name t ≡ named → Spells 2 (room_in l.outer) xs → ends_with_name xs ≡ false
    → goes_on l Part (t ∷ ts) ≡ true → Step (tokens_left l xs) t ts
after_end l xs t ts false e h unnamed on = after_part l xs t ts h e on
after_end l xs (Named m) ts true e h unnamed on =
    stays l (Names xs m []) xs (Named m) ts (λ n ns. beside_spell (room_in l.outer) xs (map Named (n ∷ ns)) (ap (λ b. b && true) unnamed) h (names_spell (room_in l.outer) n ns)) refl on
after_end l xs t ts true e h unnamed on = absurd (cc)

step : (l : Left) (hand : Hand) (t : Token) (ts : List Token) → Fits (room_in l.outer) hand → goes_on l (behind_in hand) (t ∷ ts) ≡ true → Step (tokens_left l (tokens_in hand)) t ts
step l (Waits behind front) t ts fits on = while_waiting l behind front t ts fits.0 fits.1 on
step l (Names front n ns) t ts fits on = after_names l front n ns t ts (is_name t) refl fits on
step l (Ends xs) t ts fits on = after_end l xs t ts (is_name t) refl fits.0 fits.1 on

-- ---- to the end

no_bracket_open : (outer : List Parts) (xs : List Token) → (length outer == 0) ≡ true → Spells 0 (room_in outer) xs → Spells 0 100 (before_brackets outer ++ xs)
no_bracket_open [] xs e h = h
no_bracket_open (p ∷ ps) xs e h = absurd (grind (arith, nat_tests))

ended : (l : Left) (hand : Hand) → Fits (room_in l.outer) hand → goes_on l (behind_in hand) [] ≡ true → Spells 0 100 (tokens_left l (tokens_in hand))
ended l (Waits Nothing front) fits e = let waits = fits.0 in absurd (cc)
ended l (Waits Bracket front) fits e = absurd (cc)
ended l (Waits Mark front) fits e = absurd (cc)
ended l (Waits Part front) fits e = let waits = fits.0 in absurd (cc)
ended l (Names front n ns) fits e = no_bracket_open l.outer (l.of_xor ++ (l.of_or ++ (front ++ map Named (n ∷ ns)))) e (xor_whole l (front ++ map Named (n ∷ ns)) (fits n ns))
ended l (Ends xs) fits e = no_bracket_open l.outer (l.of_xor ++ (l.of_or ++ xs)) e (xor_whole l xs fits.0)

to_the_end : (ts : List Token) (l : Left) (hand : Hand) → Fits (room_in l.outer) hand → goes_on l (behind_in hand) ts ≡ true → Spells 0 100 (tokens_left l (tokens_in hand) ++ ts)
to_the_end [] l hand fits on = subst (Spells 0 100) (sym (append-nil (tokens_left l (tokens_in hand)))) (ended l hand fits on)
to_the_end (t ∷ ts) l hand fits on =
    let s = step l hand t ts fits on in
    subst (Spells 0 100) (ap (λ xs. xs ++ ts) s.more ∙ append_assoc (tokens_left l (tokens_in hand)) (t ∷ []) ts) (to_the_end ts s.left s.hand s.fits s.on)

-- what may stand first may stand behind a mark
first : (t : Token) (ts : List Token) → are_read (t ∷ ts) ≡ true → is_at_end (run (place 0 Mark) (t ∷ ts)) ≡ true
first Xor ts e = e
first Or ts e = e
first And ts e = e
first Not ts e = e
first Open ts e = e
first Close ts e = e
first (Named n) ts e = e
first (Asked t) ts e = e

abbrev nothing_left : Left
nothing_left = record { outer = []; of_xor = []; of_or = []; outside = tt; xors = any_is_odd 100; ors = both_is_any 100 }

pub read_is_spelled : ReadIsSpelled
read_is_spelled [] e = inl refl
read_is_spelled (t ∷ ts) e =
    let h = to_the_end (t ∷ ts) nothing_left (Waits Mark []) (refl, part_is_both 100) (first t ts e) in
    inr (h.tree, h.fits, h.is)
