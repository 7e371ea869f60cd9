-- The words of a filter, one after another.
use Rattle.std.proofs.Common.{◌≡◌, ◌⊎◌, inl, inr, ℕ, ◌+◌, ◌-◌, ◌<◌, ◌==◌, Bool, true, false, List, [], ◌∷◌, ◌++◌, map, take, drop, length, get_or, String, string_bytes, Global, Option, Some, None, Result, Ok, Err, refl, sym, ap, ◌∙◌, append_assoc}
use Rattle.std.specs.List.{slice_range}
use Rattle.std.proofs.lemmas.List.{drop_more, take-map, drop-map}
use Rattle.tw_time.specs.Moments.{TimeZone}
use Rattle.tw_terms.specs.declared.bad_word.BadWord.{BadWord}
use Rattle.tw_terms.specs.declared.bad_word.WordKind.{WordKind}
use Rattle.tw_terms.specs.declared.id_word.Name.{Name}
use Rattle.tw_terms.specs.declared.term.Term.{Term}
use Rattle.tw_terms.specs.declared.token.Token.{Token}
use Rattle.tw_terms.specs.declared.token.Token.TheVariants.{Named, Asked}
use Rattle.tw_terms.specs.declared.token.Mark.{Mark}
use Rattle.tw_filter.specs.declared.grammar.Behind.{Behind}
use Rattle.tw_filter.specs.declared.grammar.Behind.TheVariants.{Nothing, Bracket, Part}
use Rattle.tw_filter.specs.declared.grammar.Behind.TheVariants as behind
use Rattle.tw_filter.specs.declared.grammar.Progress.{Progress}
use Rattle.tw_terms.specs.declared.term.Test.TheVariants.{Mentions}
use Rattle.tw_terms.specs.Values.{asks}
use Rattle.tw_terms.specs.IdWords.{names_in}
use Rattle.tw_terms.specs.Terms.{term_of}
use Rattle.tw_terms.specs.Tokens.{mark_of, token_of, asked, named, marked, tokens_of}
use Rattle.tw_filter.specs.Grammar.{next, after_word, placed, read_word, with_front, going_on, run_from, run, start, is_whole, is_end, is_end_behind, is_filter, Reads}

-- ---- what a word gives

fronts_join : (xs ys : List Token) (r : Result (List Token) BadWord) → with_front xs (with_front ys r) ≡ with_front (xs ++ ys) r
fronts_join xs ys (Err bad) = refl
fronts_join xs ys (Ok more) = ap Ok (sym (append_assoc xs ys more))

-- a word was read, and the others go on from there
pub word_leads_on : (read : Result (List Token × Progress) BadWord) (q : Progress) (old new : List Token) (rest : Progress → Result (List Token) BadWord)
    → Reads (Ok q) read old new → with_front new (rest q) ≡ with_front old (going_on read rest)
word_leads_on (Err bad) q old new rest h = absurd h
word_leads_on (Ok x) q old new rest h =
    (λ i. with_front (h.1 i) (rest (h.0 i))) ∙ sym (fronts_join old x.0 (rest x.1))

-- the tokens of a word are one, or names
abbrev pub AreOfWord : Result (List Token) WordKind → Type 0
AreOfWord (Err kind) = Unit {0}
AreOfWord (Ok tokens) = ((t : Token) × (tokens ≡ t ∷ [])) ⊎ ((names : List Name) × (tokens ≡ map Named names))

asked_one : (r : Result Term WordKind) → AreOfWord (asked r)
asked_one (Err kind) = tt
asked_one (Ok term) = inl (Asked term, refl)

named_some : (o : Option (List Name)) (r : Result Term WordKind) → AreOfWord (named o r)
named_some None r = asked_one r
named_some (Some names) r = inr (names, refl)

marked_one : (o : Option Mark) (names : Option (List Name)) (r : Result Term WordKind) → AreOfWord (marked o names r)
marked_one None names r = named_some names r
marked_one (Some mark) names r = inl (token_of mark, refl)

pub of_word : (is_plain : Bool) (word : List ℕ) (now : ℕ) (tz : TimeZone) → AreOfWord (tokens_of is_plain word now tz)
unfolding tokens_of
of_word true word now tz = asked_one (asks true (Mentions word))
of_word false word now tz = marked_one (mark_of word) (names_in word) (term_of word now tz)

-- ---- where tokens lead

abbrev pub then_run : Option Progress → List Token → Option Progress
then_run None ts = None
then_run (Some p) ts = run p ts

pub run_front : (p : Progress) (xs ys : List Token) → run p (xs ++ ys) ≡ then_run (run p xs) ys
run_front p [] ys = refl
run_front p (x ∷ xs) ys = by (next p x) (λ q. run_front q xs ys)
  where
    by : (r : Result Progress WordKind) → ((q : Progress) → run q (xs ++ ys) ≡ then_run (run q xs) ys) → run_from r (λ q. run q (xs ++ ys)) ≡ then_run (run_from r (λ q. run q xs)) ys
    by (Err kind) h = refl
    by (Ok q) h = h q

abbrev in_part : ℕ → Progress
in_part depth = record { depth = depth; behind = Part }

names_stay : (depth : ℕ) (names : List Name) → run (in_part depth) (map Named names) ≡ Some (in_part depth)
names_stay depth [] = refl
names_stay depth (name ∷ names) = names_stay depth names

names_lead : (p : Progress) (names : List Name) (q : Progress) → after_word p (map Named names) ≡ Ok q → run p (map Named names) ≡ Some q
names_lead p [] q e = let same : p ≡ q = cc in ap Some same
names_lead p (name ∷ names) q e = let same : in_part p.depth ≡ q = cc in names_stay p.depth names ∙ ap Some same

one_leads : (p : Progress) (t : Token) (q : Progress) → next p t ≡ Ok q → run p (t ∷ []) ≡ Some q
one_leads p t q e = ap (λ r. run_from r (λ x. run x [])) e

pub tokens_lead : (p : Progress) (tokens : List Token) (q : Progress) → AreOfWord (Ok tokens) → after_word p tokens ≡ Ok q → run p tokens ≡ Some q
tokens_lead p tokens q (inl (t, is)) e = ap (run p) is ∙ one_leads p t q (ap (after_word p) (sym is) ∙ e)
tokens_lead p tokens q (inr (names, is)) e = ap (run p) is ∙ names_lead p names q (ap (after_word p) (sym is) ∙ e)

-- tokens led as far as the words had come, and lead on with those of a word
pub word_is_led : (n : ℕ) (p q : Progress) (tokens : Result (List Token) WordKind) (old new : List Token) → AreOfWord tokens
    → Reads (Ok q) (read_word n p tokens) old new → run start old ≡ Some p → run start new ≡ Some q
word_is_led n p q (Err kind) old new are h led = absurd h
word_is_led n p q (Ok tokens) old new are h led = by (after_word p tokens) refl h
  where
    by : (r : Result Progress WordKind) → after_word p tokens ≡ r → Reads (Ok q) (placed n tokens r) old new → run start new ≡ Some q
    by (Err kind) e h = absurd h
    by (Ok x) e h =
        ap (run start) h.1 ∙ run_front start old tokens ∙ ap (λ o. then_run o tokens) led ∙ tokens_lead p tokens x are e ∙ ap Some (sym h.0)

-- ---- one word of many

pub next_word : (words : List (String Global)) (i : ℕ) (word : String Global) → i < length words → word ≡ get_or words i word
    → map string_bytes (drop i words) ≡ string_bytes word ∷ map string_bytes (drop (i + 1) words)
next_word words i word lt is = ap (map string_bytes) (drop_more words i word lt) ∙ ap (λ w. string_bytes w ∷ map string_bytes (drop (i + 1) words)) (sym is)

pub part_of_words : (words : List (String Global)) (from to : ℕ) → map string_bytes (slice_range words from to) ≡ slice_range (map string_bytes words) from to
part_of_words words from to = sym (take-map string_bytes (to - from) (drop from words)) ∙ ap (take (to - from)) (sym (drop-map string_bytes from words))

pub filter_at_end : (tokens : List Token) (p : Progress) → is_end p ≡ true → run start tokens ≡ Some p → is_filter tokens ≡ true
unfolding is_filter
filter_at_end tokens p ends led = ap is_whole led ∙ by p.behind p.depth ends
  where
    by : (behind : Behind) (depth : ℕ) → is_end_behind behind depth ≡ true → (depth == 0) ≡ true
    by Nothing depth e = e
    by Bracket depth e = absurd (cc)
    by behind.Mark depth e = absurd (cc)
    by Part depth e = e
