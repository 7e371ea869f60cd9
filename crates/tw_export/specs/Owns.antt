-- Members of the export's own, by their numbers.
use Rattle.std.specs.Prelude.{ℕ, ◌<◌, List, [], drop, slice_index_or}
use Rattle.std.specs.List.{AllByRecursion}
use Rattle.std.specs.FinMap.{len}
use Rattle.json.specs.Token.{Token}
use Rattle.tw_model.specs.Ops.{TaskValue}
use Rattle.tw_world.specs.declared.moment.TheConstants.{MOMENT_LIMIT}
use Rattle.tw_export.specs.Export.{Own, own_members, member_tokens, task_text, AnnotationRank}
use Rattle.tw_export.specs.declared.members.Subject.{Subject}

abbrev pub owns_in : Subject → ℕ → List Own
owns_in s n = drop n (own_members s.uuid s.task.now s.urgency)

abbrev pub own_at : Subject → ℕ → Own
own_at s n = slice_index_or (own_members s.uuid s.task.now s.urgency) n ([], [])

-- the members of its object
abbrev pub tokens_of : Subject → ℕ → List Token
tokens_of s now = member_tokens s.uuid s.task.now now s.urgency

-- its object
abbrev pub subject_text : Subject → ℕ → List ℕ
subject_text s now = task_text s.uuid s.task.now now s.urgency

-- a moment's second, and the number of a property
abbrev pub IsAnnotationRank : TaskValue → AnnotationRank → Type 0
IsAnnotationRank task rank = (rank.0 < MOMENT_LIMIT) × (rank.1 < len task)

abbrev pub AreAnnotationRanks : TaskValue → List AnnotationRank → Type 0
AreAnnotationRanks task ranks = AllByRecursion (IsAnnotationRank task) ranks
