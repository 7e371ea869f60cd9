-- The word that is refused is the first after which no filter goes on.
use Rattle.std.proofs.Common.{◌≡◌, ℕ, ◌+◌, Bool, true, false, cond, List, [], ◌∷◌, ◌++◌, length, Some, is_some, Result, Ok, Err, append_assoc, append-nil, refl, sym, ap, subst, ◌∙◌, arith}
use Rattle.std.specs.List.{slice_range}
use Rattle.tw_time.specs.Moments.{TimeZone}
use Rattle.tw_terms.specs.declared.bad_word.BadWord.{BadWord}
use Rattle.tw_terms.specs.declared.bad_word.WordKind.{WordKind}
use Rattle.tw_terms.specs.declared.bad_word.WordKind.TheVariants as bad
use Rattle.tw_terms.specs.declared.token.Token.{Token}
use Rattle.tw_filter.specs.declared.grammar.Progress.{Progress}
use Rattle.tw_filter.specs.Grammar.{after_word, bad_at, placed, read_word, is_end, with_front, going_on, read_on, start, filter_in, run}
use Rattle.tw_filter.specs.Trees.{is_at_end, are_read, AreTokensOf}
use Rattle.tw_filter.specs.Refusals.{NoneGoesOn, IsStuck, RefusedIsFirst}
use Rattle.tw_filter.proofs.AcceptedWords.{then_run, run_front, tokens_lead}
use Rattle.tw_filter.proofs.ReadFronts.{spelled_is_read, fronts_are_read}
use Rattle.tw_filter.proofs.SpelledWords.{goes_on, word_stops, tokens_at, are_of}

module _ (plain now : ℕ) (tz : TimeZone) where
  abbrev rest : ℕ → Progress → List (List ℕ) → Result (List Token) BadWord
  rest n p words = read_on n plain p words now tz

  -- the first bad word, where these tokens were read before the words
  record Found (had : List Token) (n : ℕ) (words : List (List ℕ)) (b : BadWord) : Type 0 where
    before : List (List ℕ)
    from_it : List (List ℕ)
    all_words : words ≡ before ++ from_it
    number : b.word ≡ n + length before
    tokens : List Token
    read : AreTokensOf n plain before now tz tokens
    all : List Token
    is_all : all ≡ had ++ tokens
    there : is_some (run start all) ≡ true
    stuck : IsStuck b.word plain all from_it now tz

  -- tokens that lead so far are read on as from there
  read_from : (had : List Token) (p : Progress) (more : List Token) → run start had ≡ Some p → are_read (had ++ more) ≡ goes_on p more
  read_from had p more led = ap is_at_end (run_front start had more) ∙ ap (λ o. is_at_end (then_run o more)) led

  -- it is the first of the words
  here : (had : List Token) (n : ℕ) (p : Progress) (words : List (List ℕ)) (kind : WordKind) (b : BadWord) → run start had ≡ Some p → bad_at n kind ≡ b
      → IsStuck n plain had words now tz → Found had n words b
  here had n p words kind b led same stuck = subst (Found had n words) same (record {
    before = [];
    from_it = words;
    all_words = refl;
    number = omega arith;
    tokens = [];
    read = refl;
    all = had;
    is_all = sym (append-nil had);
    there = ap is_some led;
    stuck = stuck;
  })

  at_end : (had : List Token) (n : ℕ) (p : Progress) (b : BadWord) → run start had ≡ Some p → (ends : Bool) → is_end p ≡ ends
      → cond {A = Result (List Token) BadWord} ends (Ok []) (Err (bad_at n bad.End)) ≡ Err b → Found had n [] b
  at_end had n p b led true e is = absurd (cc)
  at_end had n p b led false e is =
      let same : bad_at n bad.End ≡ b = cc in
      here had n p [] bad.End b led same (λ spelled.
      let one : is_end p ≡ true = sym (ap is_at_end led) ∙ spelled_is_read had spelled in
      absurd (cc))

  by_kind : (had : List Token) (n : ℕ) (word : List ℕ) (words : List (List ℕ)) (kind : WordKind) → tokens_at plain now tz n word ≡ Err kind → IsStuck n plain had (word ∷ words) now tz
  by_kind had n word words kind e = subst (NoneGoesOn had) (sym e) tt

  by_place : (had : List Token) (n : ℕ) (p : Progress) (word : List ℕ) (words : List (List ℕ)) (own : List Token) (kind : WordKind) → run start had ≡ Some p
      → tokens_at plain now tz n word ≡ Ok own → after_word p own ≡ Err kind → IsStuck n plain had (word ∷ words) now tz
  by_place had n p word words own kind led of_own e = subst (NoneGoesOn had) (sym of_own) (λ more spelled.
      let one : goes_on p (own ++ more) ≡ true = sym (read_from had p (own ++ more) led) ∙ spelled_is_read (had ++ (own ++ more)) spelled in
      let two : goes_on p (own ++ more) ≡ false = word_stops p own more kind e in
      absurd (cc))

  -- it is behind the first of the words
  later : (had own : List Token) (n : ℕ) (word : List ℕ) (words : List (List ℕ)) (b : BadWord) → tokens_at plain now tz n word ≡ Ok own → Found (had ++ own) (n + 1) words b → Found had n (word ∷ words) b
  later had own n word words b of_own h =
      let next = h.number in
      record {
        before = word ∷ h.before;
        from_it = h.from_it;
        all_words = ap (λ ws. word ∷ ws) h.all_words;
        number = omega arith;
        tokens = own ++ h.tokens;
        read = (own, h.tokens, of_own, h.read, refl);
        all = h.all;
        is_all = h.is_all ∙ append_assoc had own h.tokens;
        there = h.there;
        stuck = h.stuck;
      }

  led_further : (had own : List Token) (n : ℕ) (word : List ℕ) (p q : Progress) → run start had ≡ Some p → tokens_at plain now tz n word ≡ Ok own → after_word p own ≡ Ok q → run start (had ++ own) ≡ Some q
  led_further had own n word p q led of_own e =
      run_front start had own ∙ ap (λ o. then_run o own) led ∙ tokens_lead p own q (are_of plain now tz n word own of_own) e

  refused : (words : List (List ℕ)) (had : List Token) (n : ℕ) (p : Progress) (b : BadWord) → run start had ≡ Some p → rest n p words ≡ Err b → Found had n words b
  refused [] had n p b led is = at_end had n p b led (is_end p) refl is
  refused (word ∷ words) had n p b led is = by_word (tokens_at plain now tz n word) refl (λ own q. refused words (had ++ own) (n + 1) q b) is
    where
      by_rest : (own : List Token) (r : Result (List Token) BadWord) → with_front own r ≡ Err b → r ≡ Err b
      by_rest own (Err x) is = is
      by_rest own (Ok more) is = absurd (cc)

      by_own : (own : List Token) → tokens_at plain now tz n word ≡ Ok own → (r : Result Progress WordKind) → after_word p own ≡ r
          → ((q : Progress) → run start (had ++ own) ≡ Some q → rest (n + 1) q words ≡ Err b → Found (had ++ own) (n + 1) words b)
          → going_on (placed n own r) (λ q. rest (n + 1) q words) ≡ Err b → Found had n (word ∷ words) b
      by_own own of_own (Err kind) e h is = let same : bad_at n kind ≡ b = cc in here had n p (word ∷ words) kind b led same (by_place had n p word words own kind led of_own e)
      by_own own of_own (Ok q) e h is =
          later had own n word words b of_own (h q (led_further had own n word p q led of_own e) (by_rest own (rest (n + 1) q words) is))

      by_word : (r : Result (List Token) WordKind) → tokens_at plain now tz n word ≡ r
          → ((own : List Token) (q : Progress) → run start (had ++ own) ≡ Some q → rest (n + 1) q words ≡ Err b → Found (had ++ own) (n + 1) words b)
          → going_on (read_word n p r) (λ q. rest (n + 1) q words) ≡ Err b → Found had n (word ∷ words) b
      by_word (Err kind) e h is = let same : bad_at n kind ≡ b = cc in here had n p (word ∷ words) kind b led same (by_kind had n word words kind e)
      by_word (Ok own) e h is = by_own own e (after_word p own) refl (h own) is

pub refused_is_first : RefusedIsFirst
unfolding filter_in
refused_is_first words from to plain now tz b is =
    let h = refused plain now tz (slice_range words from to) [] from start b refl is in
    let begin = (fronts_are_read h.all).0 h.there in
    record {
      before = h.before;
      from_it = h.from_it;
      all_words = h.all_words;
      number = h.number;
      tokens = h.all;
      read = subst (AreTokensOf from plain h.before now tz) (sym h.is_all) h.read;
      rest = begin.0;
      begin = begin.1;
      stuck = h.stuck;
    }
