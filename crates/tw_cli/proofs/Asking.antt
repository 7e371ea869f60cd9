-- What a line is found to ask for is what it asks for.
use Rattle.std.proofs.Common.{◌≡◌, ◌∙◌, inl, inr, refl, sym, ap, subst, ℕ, List, map, string_bytes, String, Result, Ok, Err}
use Rattle.std.specs.Borrow.{Bor}
use Rattle.std.specs.Global.{Vec, Global}
use Rattle.std.specs.Result.{IsErrAnd}
use Rattle.tw_world.specs.declared.Moment.{Moment}
use Rattle.tw_time.specs.declared.zone.Zone.{Zone}
use Rattle.tw_terms.specs.declared.token.Token.{Token}
use Rattle.tw_settings.specs.Gives.{Refuses}
use Rattle.tw_words.specs.Lines.{Parts, parts_of_line}
use Rattle.tw_settings.specs.Settings.{Pair, settings_in}
use Rattle.tw_words.specs.Faults.{judged}
use Rattle.tw_settings.specs.declared.word_error.WordError.{WordError}
use Rattle.tw_settings.specs.declared.word_error.WordError.TheVariants as wrong
use Rattle.tw_cli.specs.Asked.{job_by, job_judged, job_set, job_of, asked_by, IsAsked}
use Rattle.tw_cli.specs.declared.asked.Job.{Job}
use Rattle.tw_cli.specs.declared.asked.LineError.{LineError}
use Rattle.tw_cli.specs.declared.asked.LineError.TheVariants.{Words}

-- a job that is found is asked for
pub job_asked : (asked found : Result Job LineError) (job : Job) → IsAsked asked found → found ≡ Ok job → asked ≡ Ok job
job_asked asked found job (inl same) is = sym same ∙ is
job_asked asked found job (inr want) is = absurd (by (sym is ∙ want))
  where
    by : Ok job ≡ Err (Words wrong.Memory) → ⊥
    by e = absurd (cc)

is_error : (found : Result Job LineError) (e : LineError) → IsErrAnd found (λ x. x ≡ e) → Err e ≡ found
is_error (Ok job) e is = absurd is
is_error (Err x) e is = ap (λ (y : LineError). Err y) (sym is)

-- a reader refuses, and what goes on with its answer hands that on
handed_on : {X : Type 0} (read : Result X WordError) (e : WordError) (on : Result X WordError → Result Job LineError) → ((e : WordError) → on (Err e) ≡ Err (Words e)) → Refuses e read → IsAsked (on read) (Err (Words e))
handed_on read wrong.Memory on hands refused = inr refl
handed_on read (wrong.Bad bad) on hands refused = inl (sym (ap on refused ∙ hands (wrong.Bad bad)))
handed_on read (wrong.Setting n) on hands refused = inl (sym (ap on refused ∙ hands (wrong.Setting n)))

module _ (words : Vec (String Global)) (settings : Vec ℕ) (now : Moment) (zone : Bor Zone) (line : Parts) (bytes : List ℕ) (overrides : List Pair)
    (cut : line ≡ parts_of_line (map string_bytes words.items)) (same : bytes ≡ settings.items) (over : overrides ≡ line.overrides) where
  whole : (found : Result Job LineError) → IsAsked (job_set line now zone (settings_in bytes overrides)) found → IsAsked (asked_by words settings now zone) found
  unfolding asked_by
  whole found asked =
      subst (λ l. IsAsked (job_of l settings.items now zone) found) cut
      (subst (λ b. IsAsked (job_of line b now zone) found) same
      (subst (λ o. IsAsked (job_set line now zone (settings_in bytes o)) found) over asked))

  -- the settings are refused
  pub settings_refused : (e : WordError) (found : Result Job LineError) → IsErrAnd found (λ x. x ≡ Words e) → Refuses e (settings_in bytes overrides) → IsAsked (asked_by words settings now zone) found
  settings_refused e found is refused =
      whole found (subst (IsAsked (job_set line now zone (settings_in bytes overrides))) (is_error found (Words e) is) (handed_on (settings_in bytes overrides) e (job_set line now zone) (λ e. refl) refused))

  -- the settings are read
  module _ (pairs : List Pair) (set : settings_in bytes overrides ≡ Ok pairs) where
    read_on : (found : Result Job LineError) → IsAsked (job_judged line pairs now zone (judged line now.seconds zone.now)) found → IsAsked (asked_by words settings now zone) found
    read_on found asked = whole found (subst (λ read. IsAsked (job_set line now zone read) found) (sym set) asked)

    -- a word is refused
    pub word_refused : (e : WordError) (found : Result Job LineError) → IsErrAnd found (λ x. x ≡ Words e) → Refuses e (judged line now.seconds zone.now) → IsAsked (asked_by words settings now zone) found
    word_refused e found is refused =
        read_on found (subst (IsAsked (job_judged line pairs now zone (judged line now.seconds zone.now))) (is_error found (Words e) is) (handed_on (judged line now.seconds zone.now) e (job_judged line pairs now zone) (λ e. refl) refused))

    -- nothing is refused
    pub line_taken : (filter : List Token) (found : Result Job LineError) → judged line now.seconds zone.now ≡ Ok filter
        → IsAsked (job_by line.command line filter pairs now zone) found → IsAsked (asked_by words settings now zone) found
    line_taken filter found good asked = read_on found (subst (λ read. IsAsked (job_judged line pairs now zone read) found) (sym good) asked)
