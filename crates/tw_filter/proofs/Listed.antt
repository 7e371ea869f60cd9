-- The tasks for which a filter holds are among those that a part of it lists.
use Rattle.std.proofs.Common.{◌≡◌, ◌≤◌, ℕ, Bool, true, false, cond, List, [], ◌∷◌, map, filter, length, Option, Some, None, refl, sym, ap, ◌∙◌, arith, codes}
use Rattle.std.proofs.lemmas.List.{length-map}
use Rattle.std.proofs.lemmas.List.Sums.{length-filter, count_by-le-length}
use Rattle.std.specs.FinMap.{get, entries}
use Rattle.tw_model.specs.Maps.{same_bytes}
use Rattle.tw_model.specs.Ops.{TaskValue, TasksValue}
use Rattle.tw_urgency.specs.Status.{status_with, is_word, waits}
use Rattle.tw_urgency.specs.declared.status.Status.{Status}
use Rattle.tw_urgency.specs.declared.status.Status.TheVariants.{Pending, Waiting, Completed, Deleted, Recurring, Other}
use Rattle.tw_terms.specs.Scenes.{Scene}
use Rattle.tw_terms.specs.Holds.{same_status, passes, test_holds, term_holds, name_holds}
use Rattle.tw_terms.specs.declared.term.Test.{Test}
use Rattle.tw_terms.specs.declared.term.Test.TheVariants as test
use Rattle.tw_terms.specs.declared.term.Test.TheVariants.{Has, HasStatus, IsWithin}
use Rattle.tw_terms.specs.declared.token.Token.{Token}
use Rattle.tw_filter.specs.Looked.{stored_word, is_listing, is_listed, keys_where, listed, is_one_and, first_listing, listing_part}
use Rattle.tw_filter.specs.Selected.{holds, holds_there, selected}
use Rattle.tw_filter.proofs.AndParts.{part_holds, found_lists}
use Rattle.tw_filter.proofs.TaskEntries.{AreFound, entries_found, uuid_in}

-- ---- a task of a status is stored with its word

exact : (x s : Status) → same_status x s ≡ true → x ≡ s
exact Pending Pending e = refl
exact Pending Waiting e = absurd (cc)
exact Pending Completed e = absurd (cc)
exact Pending Deleted e = absurd (cc)
exact Pending Recurring e = absurd (cc)
exact Pending Other e = absurd (cc)
exact Waiting Pending e = absurd (cc)
exact Waiting Waiting e = refl
exact Waiting Completed e = absurd (cc)
exact Waiting Deleted e = absurd (cc)
exact Waiting Recurring e = absurd (cc)
exact Waiting Other e = absurd (cc)
exact Completed Pending e = absurd (cc)
exact Completed Waiting e = absurd (cc)
exact Completed Completed e = refl
exact Completed Deleted e = absurd (cc)
exact Completed Recurring e = absurd (cc)
exact Completed Other e = absurd (cc)
exact Deleted Pending e = absurd (cc)
exact Deleted Waiting e = absurd (cc)
exact Deleted Completed e = absurd (cc)
exact Deleted Deleted e = refl
exact Deleted Recurring e = absurd (cc)
exact Deleted Other e = absurd (cc)
exact Recurring Pending e = absurd (cc)
exact Recurring Waiting e = absurd (cc)
exact Recurring Completed e = absurd (cc)
exact Recurring Deleted e = absurd (cc)
exact Recurring Recurring e = refl
exact Recurring Other e = absurd (cc)
exact Other Pending e = absurd (cc)
exact Other Waiting e = absurd (cc)
exact Other Completed e = absurd (cc)
exact Other Deleted e = absurd (cc)
exact Other Recurring e = absurd (cc)
exact Other Other e = refl

-- whether a stored word is that of a status, by which of the words it is
abbrev told : (a b c d : Bool) → Status → Bool
told a b c d Pending = a
told a b c d Waiting = a
told a b c d Completed = b
told a b c d Deleted = c
told a b c d Recurring = d
told a b c d Other = true

told_so : (w a b c d : Bool) → told a b c d (cond a (cond w Waiting Pending) (cond b Completed (cond c Deleted (cond d Recurring Other)))) ≡ true
told_so true true b c d = refl
told_so false true b c d = refl
told_so w false true c d = refl
told_so w false false true d = refl
told_so w false false false true = refl
told_so w false false false false = refl

abbrev told_by : List ℕ → Status → Bool
told_by word s = told (same_bytes word (codes "pending")) (same_bytes word (codes "completed")) (same_bytes word (codes "deleted")) (same_bytes word (codes "recurring")) s

stored : (word : List ℕ) (s : Status) → is_listing (HasStatus s) ≡ true → told_by word s ≡ true → passes (λ w. is_word w (Some word)) (stored_word s) ≡ true
stored word Pending l e = e
stored word Waiting l e = e
stored word Completed l e = e
stored word Deleted l e = e
stored word Recurring l e = e
stored word Other l e = absurd (cc)

stored_so : (o : Option (List ℕ)) (w : Bool) (s : Status) → same_status (status_with o w) s ≡ true → is_listing (HasStatus s) ≡ true → passes (λ word. is_word word o) (stored_word s) ≡ true
stored_so None w s e l = let other : is_listing (HasStatus Other) ≡ true = ap (λ x. is_listing (HasStatus x)) (exact Other s e) ∙ l in absurd (cc)
stored_so (Some word) w s e l =
    stored word s l (ap (told_by word) (sym (exact (status_with (Some word) w) s e))
    ∙ told_so w (same_bytes word (codes "pending")) (same_bytes word (codes "completed")) (same_bytes word (codes "deleted")) (same_bytes word (codes "recurring")))

-- ---- what a part lists

-- a test holds only for tasks that it lists
listed_if : (scene : Scene) (u : List ℕ) (task : TaskValue) (t : Test) → is_listing t ≡ true → test_holds scene u task t ≡ true → is_listed (Some t) task ≡ true
unfolding test_holds
listed_if scene u task (HasStatus s) l e = stored_so (get task (codes "status")) (waits scene.now task) s e l
listed_if scene u task (Has property) l e = e
listed_if scene u task (IsWithin x y) l e = e
listed_if scene u task (test.IsUuid x) l e = refl
listed_if scene u task (test.HasMoment x) l e = refl
listed_if scene u task test.HasDependency l e = refl
listed_if scene u task (test.DependsOn x) l e = refl
listed_if scene u task (test.DependsOnNumber x) l e = refl
listed_if scene u task (test.Is x y) l e = refl
listed_if scene u task (test.Contains x y) l e = refl
listed_if scene u task (test.Begins x y) l e = refl
listed_if scene u task (test.Ends x y) l e = refl
listed_if scene u task (test.HasWord x y) l e = refl
listed_if scene u task (test.Mentions x) l e = refl
listed_if scene u task (test.OnDay x y) l e = refl
listed_if scene u task (test.At x y) l e = refl
listed_if scene u task (test.Before x y) l e = refl
listed_if scene u task (test.After x y) l e = refl
listed_if scene u task test.IsActive l e = refl
listed_if scene u task test.IsOverdue l e = refl
listed_if scene u task test.IsBlocked l e = refl
listed_if scene u task test.IsBlocking l e = refl
listed_if scene u task test.IsTagged l e = refl
listed_if scene u task test.IsAnnotated l e = refl

-- a test of keys that holds only where one of values does chooses the same of all and of those that pass it
chosen_so : (tasks : TasksValue) (p : TaskValue → Bool) (q : List ℕ → Bool) (es : List (List ℕ × TaskValue)) → AreFound tasks es → ((u : List ℕ) (task : TaskValue) → get tasks u ≡ Some task → q u ≡ true → p task ≡ true)
    → filter q (keys_where p es) ≡ filter q (map uuid_in es)
chosen_so tasks p q [] found so = refl
chosen_so tasks p q (e ∷ es) found so = by (p e.1) refl (q e.0) refl (chosen_so tasks p q es found.1 so)
  where
    rest : List (List ℕ)
    rest = filter q (map uuid_in es)

    one : Bool → List (List ℕ)
    one b = filter q (map uuid_in (cond b (e ∷ filter (λ (x : List ℕ × TaskValue). p x.1) es) (filter (λ (x : List ℕ × TaskValue). p x.1) es)))

    none : p e.1 ≡ false → q e.0 ≡ true → true ≡ false
    none not_p is_q = sym (so e.0 e.1 found.0 is_q) ∙ not_p

    by : (b : Bool) → p e.1 ≡ b → (c : Bool) → q e.0 ≡ c → filter q (keys_where p es) ≡ rest → one (p e.1) ≡ cond (q e.0) (e.0 ∷ rest) rest
    by true is c is_q later = ap one is ∙ ap (λ us. cond (q e.0) (e.0 ∷ us) us) later
    by false is true is_q later = let e = none is is_q in absurd (cc)
    by false is false is_q later = ap one is ∙ later ∙ ap (λ c. cond c (e.0 ∷ rest) rest) (sym is_q)

-- a task that passes no test is among all
all_keys : (es : List (List ℕ × TaskValue)) → keys_where (is_listed None) es ≡ map uuid_in es
all_keys [] = refl
all_keys (e ∷ es) = ap (λ us. e.0 ∷ us) (all_keys es)

chosen_of_part : (scene : Scene) (tokens : List Token) (t : Test) → is_one_and 0 tokens ≡ true → first_listing 0 false tokens ≡ Some t → filter (holds scene tokens) (listed (Some t) scene.tasks) ≡ selected scene tokens
chosen_of_part scene tokens t one found = chosen_so scene.tasks (is_listed (Some t)) (holds scene tokens) (entries scene.tasks) (entries_found scene.tasks) (λ u task at so.
    listed_if scene u task t (found_lists 0 false tokens t found)
    (part_holds (name_holds scene u) (term_holds scene u task) tokens t one found (ap (holds_there scene tokens u) (sym at) ∙ so)))

-- what a filter chooses of the tasks that are listed is what it chooses of all
pub chosen_of_listed : (scene : Scene) (tokens : List Token) → filter (holds scene tokens) (listed (listing_part tokens) scene.tasks) ≡ selected scene tokens
chosen_of_listed scene tokens = by (is_one_and 0 tokens) refl
  where
    with_part : (o : Option Test) → is_one_and 0 tokens ≡ true → first_listing 0 false tokens ≡ o → filter (holds scene tokens) (listed o scene.tasks) ≡ selected scene tokens
    with_part None one is = ap (filter (holds scene tokens)) (all_keys (entries scene.tasks))
    with_part (Some t) one is = chosen_of_part scene tokens t one is

    by : (b : Bool) → is_one_and 0 tokens ≡ b → filter (holds scene tokens) (listed (cond b (first_listing 0 false tokens) None) scene.tasks) ≡ selected scene tokens
    by true one = with_part (first_listing 0 false tokens) one refl
    by false one = ap (filter (holds scene tokens)) (all_keys (entries scene.tasks))

-- ---- going over the entries

-- no more are listed than there are
pub listed_few : (p : TaskValue → Bool) (es : List (List ℕ × TaskValue)) → length (keys_where p es) ≤ length es
listed_few p es = let least = count_by-le-length (λ (e : List ℕ × TaskValue). p e.1) es in
    let long = length-map (filter (λ (e : List ℕ × TaskValue). p e.1) es) uuid_in in
    let count = length-filter (λ (e : List ℕ × TaskValue). p e.1) es in omega (arith, least, long, count)
