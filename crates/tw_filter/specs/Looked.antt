-- Which tasks a selection looks at: those that a part of its filter lists by a tag, a status or a project.
use Rattle.std.specs.Prelude.{ℕ, ◌+◌, ◌-◌, ◌==◌, ◌&&◌, ◌||◌, not, Bool, true, false, cond, List, [], ◌∷◌, map, filter}
use Rattle.std.specs.Prelude.{Option, Some, None, is_some, codes}
use Rattle.std.specs.FinMap.{get, entries}
use Rattle.tw_model.specs.Maps.{same_bytes}
use Rattle.tw_model.specs.Ops.{TaskValue, TasksValue}
use Rattle.tw_urgency.specs.Stored.{is_tag}
use Rattle.tw_urgency.specs.Status.{has_status}
use Rattle.tw_urgency.specs.declared.status.Status.{Status}
use Rattle.tw_urgency.specs.declared.status.Status.TheVariants.{Pending, Waiting, Completed, Deleted, Recurring, Other}
use Rattle.tw_terms.specs.Holds.{passes}
use Rattle.tw_terms.specs.Occurs.{is_below}
use Rattle.tw_terms.specs.declared.term.Test.{Test}
use Rattle.tw_terms.specs.declared.term.Test.TheVariants.{Has, HasStatus, IsWithin}
use Rattle.tw_terms.specs.declared.term.Term.{Term}
use Rattle.tw_terms.specs.declared.token.Token.{Token}
use Rattle.tw_terms.specs.declared.token.Token.TheVariants.{Xor, Or, And, Not, Open, Close, Asked}

-- ---- the tasks of a tag, a status or a project

-- the word with which the tasks of a status are stored: a waiting one is stored as pending
abbrev pub stored_word : Status → Option (List ℕ)
stored_word Pending = Some (codes "pending")
stored_word Waiting = Some (codes "pending")
stored_word Completed = Some (codes "completed")
stored_word Deleted = Some (codes "deleted")
stored_word Recurring = Some (codes "recurring")
stored_word Other = None

-- whether a test asks for a tag, a status or a project
abbrev pub is_listing : Test → Bool
is_listing (Has property) = is_tag property
is_listing (HasStatus status) = is_some (stored_word status)
is_listing (IsWithin property project) = true
is_listing _ = false

-- whether a task has the tag, is stored with the status, or is in the project; if none is asked for, each task is listed
abbrev pub is_listed : Option Test → TaskValue → Bool
is_listed (Some (Has property)) task = is_some (get task property)
is_listed (Some (HasStatus status)) task = passes (λ word. has_status word task) (stored_word status)
is_listed (Some (IsWithin property project)) task = passes (λ text. same_bytes text project || is_below project text) (get task property)
is_listed _ task = true

-- the keys of the entries whose values pass a test
abbrev pub keys_where : (TaskValue → Bool) → List (List ℕ × TaskValue) → List (List ℕ)
keys_where p es = map (λ e. e.0) (filter (λ e. p e.1) es)

-- the uuids of the tasks that are listed, in byte order
abbrev pub listed : Option Test → TasksValue → List (List ℕ)
listed part tasks = keys_where (is_listed part) (entries tasks)

-- ---- the part that lists them

-- how many brackets are open after a token
abbrev pub depth_after : ℕ → Token → ℕ
depth_after depth Open = depth + 1
depth_after depth Close = depth - 1
depth_after depth _ = depth

-- whether a token joins what is outside of brackets otherwise than by `and`
abbrev pub joins_otherwise : ℕ → Token → Bool
joins_otherwise depth Xor = depth == 0
joins_otherwise depth Or = depth == 0
joins_otherwise depth Close = depth == 0
joins_otherwise depth _ = false

-- whether tokens are the parts of one `and`, if so many brackets are open before them
abbrev pub is_one_and : ℕ → List Token → Bool
is_one_and depth [] = depth == 0
is_one_and depth (t ∷ ts) = not (joins_otherwise depth t) && is_one_and (depth_after depth t) ts

-- whether `!` turns round what comes after a token
abbrev pub is_turned_after : Bool → Token → Bool
is_turned_after turned Not = true
is_turned_after turned And = turned
is_turned_after turned _ = false

abbrev pub asked_part : Bool → Term → Option Test
asked_part is_part term = cond (is_part && term.wanted && is_listing term.test) (Some term.test) None

-- the test of a token outside of brackets and not after `!`, if it lists tasks
abbrev pub listing_here : ℕ → Bool → Token → Option Test
listing_here depth turned (Asked term) = asked_part ((depth == 0) && not turned) term
listing_here depth turned _ = None

abbrev pub or_later : Option Test → Option Test → Option Test
or_later (Some test) later = Some test
or_later None later = later

-- the first such test
abbrev pub first_listing : ℕ → Bool → List Token → Option Test
first_listing depth turned [] = None
first_listing depth turned (t ∷ ts) = or_later (listing_here depth turned t) (first_listing (depth_after depth t) (is_turned_after turned t) ts)

-- the first part of one `and` that lists tasks
abbrev pub listing_part : List Token → Option Test
listing_part tokens = cond (is_one_and 0 tokens) (first_listing 0 false tokens) None
