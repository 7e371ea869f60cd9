-- The places of a line's words tell where they were given.
use Rattle.std.proofs.Common.{◌≡◌, ◌∙◌, ◌⊎◌, inl, inr, ℕ, ◌+◌, Bool, true, false, cond, List, [], ◌∷◌, ◌++◌, Option, Some, None, length, map, codes, refl, sym, ap, subst, arith}
use Rattle.std.proofs.lemmas.List.{append-nil, map-append}
use Rattle.std.specs.List.{slice_get}
use Rattle.tw_model.specs.Maps.{same_bytes}
use Rattle.tw_settings.specs.Settings.{Pair}
use Rattle.tw_words.specs.Commands.{command_named, rest_of}
use Rattle.tw_words.specs.Lines.{Taken, override_in, first_command, taking, dashed, named, overriding, as_command, as_override, as_word, with_word, taken_from, nothing, filter_end, line_with, line_by}
use Rattle.tw_words.specs.Places.{Pile, picked, first_dash, IsNamedBy, RisesFrom, ArePlaced, EachWordHasItsPlace}
use Rattle.tw_words.specs.Places.Pile.{Word, Override, Naming, Dash}
use Rattle.tw_words.specs.declared.command.AnyCommand.{AnyCommand}
use Rattle.tw_words.specs.declared.command.AnyCommand.TheVariants.{Tasks}
use Rattle.tw_words.specs.declared.command.Command.TheVariants.{Next}
use Rattle.tw_words.proofs.PickedWords.{word_of, place_of, read_of, known, picked_on, joined, rises, tells}

-- ---- the command's word

no_command : (c : AnyCommand) → Some c ≡ None → ⊥
no_command c e = absurd (cc)

-- none of these words names the command
record Still (t u : Taken) (words : List (ℕ × List ℕ)) : Type 0 where
  none : words ≡ []
  command : u.command ≡ t.command
  number : u.word_number ≡ t.word_number

-- one of them does, and none did before
record Named (t u : Taken) (words : List (ℕ × List ℕ)) : Type 0 where
  word : List ℕ
  command : AnyCommand
  one : words ≡ (u.word_number, word) ∷ []
  before : t.command ≡ None
  after : u.command ≡ Some command
  is : command_named word ≡ Some command

abbrev Names : Taken → Taken → List (ℕ × List ℕ) → Type 0
Names t u words = Still t u words ⊎ Named t u words

both_on : (a b c d : List (ℕ × List ℕ)) → a ≡ b → c ≡ d → a ++ c ≡ b ++ d
both_on a b c d e f = λ i. e i ++ f i

names_on : (t u v : Taken) (a b : List (ℕ × List ℕ)) → Names t u a → Names u v b → Names t v (a ++ b)
names_on t u v a b (inl s) (inl r) = inl (record { none = both_on a [] b [] s.none r.none; command = r.command ∙ s.command; number = r.number ∙ s.number })
names_on t u v a b (inl s) (inr r) = inr (record {
  word = r.word;
  command = r.command;
  one = both_on a [] b ((v.word_number, r.word) ∷ []) s.none r.one;
  before = sym s.command ∙ r.before;
  after = r.after;
  is = r.is;
})
names_on t u v a b (inr s) (inl r) = inr (record {
  word = s.word;
  command = s.command;
  one = both_on a ((u.word_number, s.word) ∷ []) b [] s.one r.none ∙ ap (λ (n : ℕ). (n, s.word) ∷ []) (sym r.number);
  before = s.before;
  after = r.command ∙ s.after;
  is = s.is;
})
names_on t u v a b (inr s) (inr r) = absurd (no_command s.command (sym s.after ∙ r.before))

first_is : (o : Option AnyCommand) (word : List ℕ) (c : AnyCommand) → first_command o word ≡ Some c → (o ≡ None) × (command_named word ≡ Some c)
first_is None word c e = (refl, e)
first_is (Some x) word c e = absurd (cc)

-- ---- the first `--`

-- the first of these words that is `--`, if none was before
abbrev dashes_from : Option ℕ → ℕ → List (List ℕ) → List (ℕ × List ℕ)
dashes_from None n words = first_dash n words
dashes_from (Some plain) n words = []

none_left : (plain : Option ℕ) (n : ℕ) → dashes_from plain n [] ≡ []
none_left None n = refl
none_left (Some plain) n = refl

none_behind : (o : Option ℕ) (plain n : ℕ) (word : List ℕ) (rest : List (List ℕ)) → o ≡ Some plain → dashes_from o n (word ∷ rest) ≡ dashes_from o (n + 1) rest
none_behind None plain n word rest e = absurd (cc)
none_behind (Some p) plain n word rest e = refl

passed : (o : Option ℕ) (n : ℕ) (word : List ℕ) (rest : List (List ℕ)) → o ≡ None → same_bytes word (codes "--") ≡ false → dashes_from o n (word ∷ rest) ≡ dashes_from o (n + 1) rest
passed None n word rest e other = ap (λ b. cond b ((n, word) ∷ []) (first_dash (n + 1) rest)) other
passed (Some p) n word rest e other = absurd (cc)

found : (o : Option ℕ) (n : ℕ) (word : List ℕ) (rest : List (List ℕ)) → o ≡ None → same_bytes word (codes "--") ≡ true → dashes_from o n (word ∷ rest) ≡ (n, word) ∷ []
found None n word rest e is = ap (λ b. cond b ((n, word) ∷ []) (first_dash (n + 1) rest)) is
found (Some p) n word rest e is = absurd (cc)

-- ---- one word

-- one word goes to one pile
record Step (t : Taken) (n : ℕ) (word : List ℕ) (u : Taken) : Type 0 where
  pile : Pile
  words : u.words ≡ t.words ++ map word_of (picked Word n ((pile, word) ∷ []))
  places : u.word_numbers ≡ t.word_numbers ++ map place_of (picked Word n ((pile, word) ∷ []))
  overrides : known u.overrides ≡ known t.overrides ++ map read_of (picked Override n ((pile, word) ∷ []))
  names : Names t u (picked Naming n ((pile, word) ∷ []))
  dashes : (rest : List (List ℕ)) → dashes_from t.plain n (word ∷ rest) ≡ picked Dash n ((pile, word) ∷ []) ++ dashes_from u.plain (n + 1) rest

module _ (t : Taken) (n : ℕ) (word : List ℕ) where
  to_words : ((rest : List (List ℕ)) → dashes_from t.plain n (word ∷ rest) ≡ dashes_from t.plain (n + 1) rest) → Step t n word (taking t n word)
  to_words none = record {
    pile = Word;
    words = refl;
    places = refl;
    overrides = sym (append-nil (known t.overrides));
    names = inl (record { none = refl; command = refl; number = refl });
    dashes = none;
  }

  to_overrides : (x : Pair) → override_in word ≡ Some x → t.plain ≡ None → same_bytes word (codes "--") ≡ false → Step t n word (overriding t x)
  to_overrides x is first other = record {
    pile = Override;
    words = sym (append-nil t.words);
    places = sym (append-nil t.word_numbers);
    overrides = map-append (λ (x : Pair). Some x) t.overrides (x ∷ []) ∙ ap (λ (o : Option Pair). known t.overrides ++ o ∷ []) (sym is);
    names = inl (record { none = refl; command = refl; number = refl });
    dashes = λ rest. passed t.plain n word rest first other;
  }

  to_command : (c : AnyCommand) → (t.command ≡ None) × (command_named word ≡ Some c) → t.plain ≡ None → same_bytes word (codes "--") ≡ false → Step t n word (named t n c)
  to_command c both first other = record {
    pile = Naming;
    words = sym (append-nil t.words);
    places = sym (append-nil t.word_numbers);
    overrides = sym (append-nil (known t.overrides));
    names = inr (record { word = word; command = c; one = refl; before = both.0; after = refl; is = both.1 });
    dashes = λ rest. passed t.plain n word rest first other;
  }

  to_dash : t.plain ≡ None → same_bytes word (codes "--") ≡ true → Step t n word (dashed t)
  to_dash first is = record {
    pile = Dash;
    words = sym (append-nil t.words);
    places = sym (append-nil t.word_numbers);
    overrides = sym (append-nil (known t.overrides));
    names = inl (record { none = refl; command = refl; number = refl });
    dashes = λ rest. found t.plain n word rest first is;
  }

  step : Step t n word (with_word t n word)
  step = by_plain t.plain refl
    where
      by_command : (o : Option AnyCommand) → first_command t.command word ≡ o → t.plain ≡ None → same_bytes word (codes "--") ≡ false → Step t n word (as_command t n word o)
      by_command None e first other = to_words (λ rest. passed t.plain n word rest first other)
      by_command (Some c) e first other = to_command c (first_is t.command word c e) first other

      by_override : (o : Option Pair) → override_in word ≡ o → t.plain ≡ None → same_bytes word (codes "--") ≡ false → Step t n word (as_override t n word o)
      by_override None e first other = by_command (first_command t.command word) refl first other
      by_override (Some x) e first other = to_overrides x e first other

      by_dash : (b : Bool) → same_bytes word (codes "--") ≡ b → t.plain ≡ None → Step t n word (cond b (dashed t) (as_override t n word (override_in word)))
      by_dash true is first = to_dash first is
      by_dash false is first = by_override (override_in word) refl first is

      by_plain : (o : Option ℕ) → t.plain ≡ o → Step t n word (as_word t n word o)
      by_plain None e = by_dash (same_bytes word (codes "--")) refl e
      by_plain (Some plain) e = to_words (λ rest. none_behind t.plain plain n word rest e)

-- ---- all words

-- each of these words went to one pile
record Went (t : Taken) (n : ℕ) (given : List (List ℕ)) (u : Taken) : Type 0 where
  sorted : List (Pile × List ℕ)
  each : map (λ (x : Pile × List ℕ). x.1) sorted ≡ given
  words : u.words ≡ t.words ++ map word_of (picked Word n sorted)
  places : u.word_numbers ≡ t.word_numbers ++ map place_of (picked Word n sorted)
  overrides : known u.overrides ≡ known t.overrides ++ map read_of (picked Override n sorted)
  names : Names t u (picked Naming n sorted)
  dashes : dashes_from t.plain n given ≡ picked Dash n sorted

went_on : (t : Taken) (n : ℕ) (word : List ℕ) (given : List (List ℕ)) (u v : Taken) → Step t n word u → Went u (n + 1) given v → Went t n (word ∷ given) v
went_on t n word given u v one others =
    record {
      sorted = (one.pile, word) ∷ others.sorted;
      each = ap (λ (l : List (List ℕ)). word ∷ l) others.each;
      words = joined word_of Word n (one.pile, word) others.sorted t.words u.words v.words one.words others.words;
      places = joined place_of Word n (one.pile, word) others.sorted t.word_numbers u.word_numbers v.word_numbers one.places others.places;
      overrides = joined read_of Override n (one.pile, word) others.sorted (known t.overrides) (known u.overrides) (known v.overrides) one.overrides others.overrides;
      names = subst (Names t v) (sym (picked_on Naming n (one.pile, word) others.sorted))
          (names_on t u v (picked Naming n ((one.pile, word) ∷ [])) (picked Naming (n + 1) others.sorted) one.names others.names);
      dashes = one.dashes given ∙ ap (λ (l : List (ℕ × List ℕ)). picked Dash n ((one.pile, word) ∷ []) ++ l) others.dashes
          ∙ sym (picked_on Dash n (one.pile, word) others.sorted);
    }

went : (t : Taken) (n : ℕ) (given : List (List ℕ)) → Went t n given (taken_from t n given)
went t n [] = record {
  sorted = [];
  each = refl;
  words = sym (append-nil t.words);
  places = sym (append-nil t.word_numbers);
  overrides = sym (append-nil (known t.overrides));
  names = inl (record { none = refl; command = refl; number = refl });
  dashes = none_left t.plain n;
}
went t n (word ∷ given) =
    went_on t n word given (with_word t n word) (taken_from (with_word t n word) (n + 1) given) (step t n word) (went (with_word t n word) (n + 1) given)

-- ---- the line

module _ (given : List (List ℕ)) (t : Taken) (all : Went nothing 0 given t) where
  tell_with : (c : AnyCommand) (to : ℕ) → IsNamedBy (picked Naming 0 all.sorted) (line_with t c to) → ArePlaced given (line_with t c to)
  tell_with c to is =
      let there = tells given Word 0 all.sorted (λ k. ap (λ (l : List (List ℕ)). slice_get l k) all.each ∙ ap (λ (n : ℕ). slice_get given n) (from_none k)) in
      record {
        words = ap (map (λ (n : ℕ). slice_get given n)) all.places ∙ there ∙ ap (map (λ (word : List ℕ). Some word)) (sym all.words);
        rise = subst (RisesFrom 0) (sym all.places) (rises Word 0 all.sorted);
        sorted = record {
          sorted = all.sorted;
          each = all.each;
          words = sym all.words;
          places = sym all.places;
          overrides = sym all.overrides;
          command = is;
          dash = sym all.dashes;
        };
      }
    where
      from_none : (k : ℕ) → k ≡ 0 + k
      from_none k = omega arith

  tell : ArePlaced given (line_by t t.command)
  tell = by t.command refl all.names
    where
      by : (o : Option AnyCommand) → t.command ≡ o → Names nothing t (picked Naming 0 all.sorted) → ArePlaced given (line_by t o)
      by None e (inl s) = tell_with (Tasks Next) (length t.words) (inr (s.none, refl, s.number))
      by None e (inr r) = absurd (no_command r.command (sym r.after ∙ e))
      by (Some c) e (inl s) = absurd (no_command c (sym e ∙ s.command))
      by (Some c) e (inr r) = tell_with c (filter_end (rest_of c) t.before (length t.words)) (inl (r.word, r.one, r.is ∙ sym r.after ∙ e))

-- each word of a line has the place at which it was given
pub each_word_has_its_place : EachWordHasItsPlace
each_word_has_its_place given = tell given (taken_from nothing 0 given) (went nothing 0 given)
