-- A world that is asked for has at most 10,000 tasks.
use Rattle.std.proofs.Common.{◌≡◌, ◌≤◌, ℕ, ◌+◌, ◌&&◌, Bool, true, false, List, Option, Some, None, Result, Ok, Err, map, string_bytes, String, refl, subst, arith, nat_le}
use Rattle.std.proofs.lemmas.Bool.Decides.{nat_tests}
use Rattle.std.specs.Prelude.{option_and_then}
use Rattle.std.specs.Global.{Vec, Global}
use Rattle.std.specs.Borrow.{Bor}
use Rattle.tw_text.specs.Natural.{natural}
use Rattle.tw_world.specs.declared.Moment.{Moment}
use Rattle.tw_time.specs.declared.zone.Zone.{Zone}
use Rattle.tw_terms.specs.declared.bad_word.BadWord.{BadWord}
use Rattle.tw_terms.specs.declared.bad_word.WordKind.{WordKind}
use Rattle.tw_terms.specs.declared.bad_word.WordKind.TheVariants as bad
use Rattle.tw_terms.specs.declared.token.Token.{Token}
use Rattle.tw_words.specs.Lines.{Parts, parts_of_line}
use Rattle.tw_words.specs.Commands.{filtering_of, rest_of}
use Rattle.tw_words.specs.Modifications.{Clock, at_word, first_of, unless}
use Rattle.tw_settings.specs.Settings.{Pair, settings_in}
use Rattle.tw_words.specs.Faults.{filter_fault, lack_fault, rest_word, or_zero, number_behind, at_rest, if_there, is_amount, no_amount, no_seed, extra_at, numbers_fault, rest_fault, rest_fault_by, fault_of, unless_bad, filter_by, with_rest, judged}
use Rattle.tw_words.specs.declared.command.AnyCommand.{AnyCommand}
use Rattle.tw_words.specs.declared.command.AnyCommand.TheVariants as command
use Rattle.tw_settings.specs.declared.word_error.WordError.{WordError}
use Rattle.tw_cli.specs.Asked.{syncing, job_by, job_judged, job_set, asked_by, HasFew}
use Rattle.tw_settings.specs.declared.server.ServerSettings.{ServerSettings}
use Rattle.tw_settings.specs.Servers.{server_set}

-- of two faults there is none
no_first : (a b : Option BadWord) → first_of a b ≡ None → a ≡ None
no_first None b e = refl
no_first (Some x) b e = absurd (cc)

no_second : (a b : Option BadWord) → first_of a b ≡ None → b ≡ None
no_second None b e = e
no_second (Some x) b e = absurd (cc)

no_kind : (line : Parts) (n : ℕ) (kind : Option WordKind) → at_word line n kind ≡ None → kind ≡ None
no_kind line n None e = refl
no_kind line n (Some kind) e = absurd (cc)

amount_is : (o : Option ℕ) → unless (is_amount o) bad.Value ≡ None → or_zero o ≤ 10000
amount_is None e = absurd (cc)
amount_is (Some n) e = by (nat_le 1 n) (nat_le n 10000) refl e
  where
    by : (a b : Bool) → nat_le n 10000 ≡ b → unless (a && b) bad.Value ≡ None → n ≤ 10000
    by true true low is = grind (arith, nat_tests)
    by true false low is = absurd (cc)
    by false b low is = absurd (cc)

word_amount : (word : Option (List ℕ)) → if_there no_amount word ≡ None → or_zero (option_and_then natural word) ≤ 10000
word_amount None e = omega arith
word_amount (Some word) e = amount_is (natural word) e

-- a line whose numbers are right
numbers_few : (line : Parts) → numbers_fault line ≡ None → number_behind line 0 ≤ 10000
numbers_few line e =
    let amount : at_rest line 0 (if_there no_amount (rest_word line 0)) ≡ None =
    no_first (at_rest line 0 (if_there no_amount (rest_word line 0))) (first_of (at_rest line 1 (if_there no_seed (rest_word line 1))) (extra_at line 2)) e in
    word_amount (rest_word line 0) (no_kind line (line.rest_from + 0) (if_there no_amount (rest_word line 0)) amount)

line_few : (clock : Clock) (line : Parts) → line.command ≡ command.Generate → fault_of clock line ≡ None → number_behind line 0 ≤ 10000
line_few clock line is e =
    let behind : first_of (lack_fault line) (rest_fault clock line) ≡ None = no_second (filter_fault line) (first_of (lack_fault line) (rest_fault clock line)) e in
    let rest : rest_fault_by (rest_of line.command) clock line ≡ None = no_second (lack_fault line) (rest_fault clock line) behind in
    numbers_few line (subst (λ (c : AnyCommand). rest_fault_by (rest_of c) clock line ≡ None) is rest)

no_fault : (filter found : List Token) (fault : Option BadWord) → unless_bad filter fault ≡ Ok found → fault ≡ None
no_fault filter found None e = refl
no_fault filter found (Some b) e = absurd (cc)

judged_few : (line : Parts) (now : Moment) (zone : Bor Zone) (found : List Token) (filter : Result (List Token) BadWord) → line.command ≡ command.Generate
    → with_rest line now.seconds zone.now filter ≡ Ok found → number_behind line 0 ≤ 10000
judged_few line now zone found (Err b) is e = absurd (cc)
judged_few line now zone found (Ok filter) is e = line_few (Some (now.seconds, zone.now)) line is (no_fault filter found (fault_of (Some (now.seconds, zone.now)) line) e)

sync_has_few : (o : Option ServerSettings) → HasFew (syncing o)
sync_has_few None = tt
sync_has_few (Some server) = tt

job_has_few : (c : AnyCommand) (line : Parts) (filter : List Token) (settings : List Pair) (now : Moment) (zone : Bor Zone) → (c ≡ command.Generate → number_behind line 0 ≤ 10000) → HasFew (job_by c line filter settings now zone)
job_has_few (command.Tasks over) line filter settings now zone few = tt
job_has_few command.Sync line filter settings now zone few = sync_has_few (server_set settings)
job_has_few command.Generate line filter settings now zone few = few refl

read_has_few : (line : Parts) (settings : List Pair) (now : Moment) (zone : Bor Zone) (read : Result (List Token) WordError) → judged line now.seconds zone.now ≡ read → HasFew (job_judged line settings now zone read)
read_has_few line settings now zone (Err error) is = tt
read_has_few line settings now zone (Ok filter) is =
    job_has_few line.command line filter settings now zone
    (λ generates. judged_few line now zone filter (filter_by (filtering_of line.command) line now.seconds zone.now) generates is)

set_has_few : (line : Parts) (now : Moment) (zone : Bor Zone) (set : Result (List Pair) WordError) → HasFew (job_set line now zone set)
set_has_few line now zone (Err error) = tt
set_has_few line now zone (Ok settings) = read_has_few line settings now zone (judged line now.seconds zone.now) refl

-- a world that is asked for has at most 10,000 tasks
pub asked_has_few : (words : Vec (String Global)) (settings : Vec ℕ) (now : Moment) (zone : Bor Zone) → HasFew (asked_by words settings now zone)
unfolding asked_by
asked_has_few words settings now zone = let line = parts_of_line (map string_bytes words.items) in set_has_few line now zone (settings_in settings.items line.overrides)
