-- Whether a term holds for a task: task(1), under "filters".
use Rattle.std.specs.Prelude.{ℕ, ◌==◌, ◌&&◌, ◌||◌, not, nat_eq, nat_le, nat_lt, Bool, true, false, cond, List, Option}
use Rattle.std.specs.Prelude.{Some, None, option_map, is_some, codes}
use Rattle.std.specs.List.{list_any, starts_with, ends_with}
use Rattle.std.specs.Ordering.{int_eq}
use Rattle.std.specs.FinMap.{get, keys, entries}
use Rattle.tw_time.specs.Moments.{Date, TimeZone}
use Rattle.tw_model.specs.Maps.{same_bytes}
use Rattle.tw_model.specs.Ops.{TaskValue}
use Rattle.tw_time.specs.Civil.{shown_date, day_of_date}
use Rattle.tw_time.specs.declared.clock.Day.{Day}
use Rattle.tw_urgency.specs.Stored.{moment_at, is_tag, is_annotation}
use Rattle.tw_urgency.specs.Status.{status_of}
use Rattle.tw_urgency.specs.Dependencies.{depends_on, has_dependency, is_blocked, blocking}
use Rattle.tw_urgency.specs.declared.status.Status.{Status}
use Rattle.tw_urgency.specs.declared.status.Status.TheVariants.{Pending, Waiting, Completed, Deleted, Recurring, Other}
use Rattle.tw_model.specs.Places.{id_of, uuid_of}
use Rattle.tw_terms.specs.Occurs.{occurs, has_word, is_below}
use Rattle.tw_terms.specs.Scenes.{Scene}
use Rattle.tw_terms.specs.declared.id_word.Name.{Name}
use Rattle.tw_terms.specs.declared.id_word.Name.TheVariants.{Numbers, One}
use Rattle.tw_terms.specs.declared.term.Test.{Test}
use Rattle.tw_terms.specs.declared.term.Test.TheVariants.{IsUuid, Has, HasMoment, HasDependency, DependsOn, DependsOnNumber, Is, IsWithin}
use Rattle.tw_terms.specs.declared.term.Test.TheVariants.{Contains, Begins, Ends, HasWord, Mentions, OnDay, At, Before, After, HasStatus}
use Rattle.tw_terms.specs.declared.term.Test.TheVariants.{IsActive, IsOverdue, IsBlocked, IsBlocking, IsTagged, IsAnnotated}
use Rattle.tw_terms.specs.declared.term.Term.{Term}

-- whether a value is there and passes a test
abbrev pub passes : {A : Type 0} → (A → Bool) → Option A → Bool
passes test None = false
passes test (Some x) = test x

abbrev pub same_status : Status → Status → Bool
same_status Pending Pending = true
same_status Waiting Waiting = true
same_status Completed Completed = true
same_status Deleted Deleted = true
same_status Recurring Recurring = true
same_status Other Other = true
same_status _ _ = false

abbrev pub has_status : Scene → TaskValue → Status → Bool
has_status scene task status = same_status (status_of task scene.now) status

abbrev pub is_day : Day → Day → Bool
is_day day other = int_eq other.year day.year && (other.month == day.month) && (other.day == day.day)

-- whether a moment is on a day
abbrev pub is_on : TimeZone → Day → ℕ → Bool
is_on tz day at = passes (is_day day) (option_map (λ (d : Date). day_of_date d) (shown_date tz at))

-- whether a property is a text that is searched for words, and has this one
abbrev pub mentions : List ℕ → List ℕ × List ℕ → Bool
mentions value e = (same_bytes e.0 (codes "description") || is_annotation e.0) && occurs value e.1

-- whether a test holds for the task of a uuid
unfoldable pub test_holds : Scene → (u : List ℕ) → TaskValue → Test → Bool
test_holds scene u task (IsUuid v) = same_bytes u v
test_holds scene u task (Has property) = is_some (get task property)
test_holds scene u task (HasMoment property) = is_some (moment_at property task)
test_holds scene u task HasDependency = has_dependency task
test_holds scene u task (DependsOn v) = depends_on task v
test_holds scene u task (DependsOnNumber n) = passes (depends_on task) (uuid_of n scene.places)
test_holds scene u task (Is property value) = passes (λ text. same_bytes text value) (get task property)
test_holds scene u task (IsWithin property value) = passes (λ text. same_bytes text value || is_below value text) (get task property)
test_holds scene u task (Contains property value) = passes (occurs value) (get task property)
test_holds scene u task (Begins property value) = passes (λ text. starts_with nat_eq text value) (get task property)
test_holds scene u task (Ends property value) = passes (λ text. ends_with nat_eq text value) (get task property)
test_holds scene u task (HasWord property value) = passes (has_word false value) (get task property)
test_holds scene u task (Mentions value) = list_any (mentions value) (entries task)
test_holds scene u task (OnDay property day) = passes (is_on scene.tz day) (moment_at property task)
test_holds scene u task (At property second) = passes (λ at. at == second) (moment_at property task)
test_holds scene u task (Before property second) = passes (λ at. nat_lt at second) (moment_at property task)
test_holds scene u task (After property second) = passes (λ at. nat_lt second at) (moment_at property task)
test_holds scene u task (HasStatus status) = has_status scene task status
test_holds scene u task IsActive = has_status scene task Pending && is_some (moment_at (codes "start") task)
test_holds scene u task IsOverdue = has_status scene task Pending && passes (λ due. nat_lt due scene.now) (moment_at (codes "due") task)
test_holds scene u task IsBlocked = is_blocked scene.tasks task
test_holds scene u task IsBlocking = blocking scene.tasks u
test_holds scene u task IsTagged = list_any is_tag (keys task)
test_holds scene u task IsAnnotated = list_any is_annotation (keys task)

-- whether a term does
abbrev pub term_holds : Scene → (u : List ℕ) → TaskValue → Term → Bool
term_holds scene u task term = cond term.wanted (test_holds scene u task term.test) (not (test_holds scene u task term.test))

-- whether a name is one of the task's
abbrev pub name_holds : Scene → (u : List ℕ) → Name → Bool
name_holds scene u (Numbers first last) = passes (λ id. nat_le first id && nat_le id last) (id_of u scene.places)
name_holds scene u (One v) = same_bytes u v
