-- What commands print.
use Rattle.std.specs.Prelude.{ℕ, ◌+◌, ◌-◌, ◌==◌, Bool, false, cond, List, [], ◌++◌, length, Option, Some, None, Result, Ok, Err, codes}
use Rattle.std.specs.Global.{Vec}
use Rattle.std.specs.Fmt.{decimal}
use Rattle.std.specs.FinMap.{get}
use Rattle.tw_model.specs.Ops.{TaskValue}
use Rattle.tw_model.specs.Places.{id_of}
use Rattle.tw_state.specs.State.{State}
use Rattle.tw_commands.specs.Plan.{Show}
use Rattle.tw_commands.specs.Plan.Show.{Counted, Created, Logged, TakenBack, Text, Report}
use Rattle.tw_commands.specs.declared.plan.Deed.{Deed}
use Rattle.tw_commands.specs.declared.plan.Deed.TheVariants.{Modified, Annotated, Denotated, Completed, Deleted, Purged, Started, Stopped, Duplicated, Imported}
use Rattle.tw_changes.specs.Makes.Add.{recurs}
use Rattle.tw_commands.specs.Reports.{reported}
use Rattle.tw_changes.specs.declared.request.Request.{Request}
use Rattle.tw_changes.specs.declared.refusal.Refusal.{Refusal}

-- a number between two texts
abbrev pub numbered : List ℕ → ℕ → List ℕ → List ℕ
numbered front n back = front ++ (decimal n ++ back)

-- the word for what was done
abbrev pub deed_word : Deed → List ℕ
deed_word Modified = codes "Modified "
deed_word Annotated = codes "Annotated "
deed_word Denotated = codes "Denotated "
deed_word Completed = codes "Completed "
deed_word Deleted = codes "Deleted "
deed_word Purged = codes "Purged "
deed_word Started = codes "Started "
deed_word Stopped = codes "Stopped "
deed_word Duplicated = codes "Duplicated "
deed_word Imported = codes "Imported "

-- of tasks on which a command acted
abbrev pub counted_text : Deed → ℕ → List ℕ
counted_text deed n = numbered (deed_word deed) n (cond (n == 1) (codes " task.\n") (codes " tasks.\n"))

-- of a task that was logged
abbrev pub logged_text : List ℕ
logged_text = codes "Logged task.\n"

-- whether a task is there and recurs
abbrev pub recurs_there : Option TaskValue → Bool
recurs_there None = false
recurs_there (Some task) = recurs task

-- of a task that was added, by its number and what it is then; one that is not open has no number
abbrev pub created_text : Option ℕ → Option TaskValue → List ℕ
created_text None task = logged_text
created_text (Some n) task = numbered (codes "Created task ") n (cond (recurs_there task) (codes " (recurrence template).\n") (codes ".\n"))

-- of operations that were taken back
abbrev pub undone_text : ℕ → List ℕ
undone_text n = numbered (codes "Undone ") n (cond (n == 1) (codes " operation.\n") (codes " operations.\n"))

-- of a number of tasks
abbrev pub count_text : ℕ → List ℕ
count_text n = numbered [] n (codes "\n")

-- the text, once the step led from one state to another; a report that has nothing to show is refused
abbrev pub shown : Request → Show → (old new : State) → Result (List ℕ) Refusal
shown request (Counted deed n) old new = Ok (counted_text deed n)
shown request (Created u) old new = Ok (created_text (id_of u new.numbers) (get new.tasks u))
shown request Logged old new = Ok logged_text
shown request TakenBack old new = Ok (undone_text (length old.pending - (length new.pending + 1)))
shown request (Text text) old new = Ok text
shown request (Report report before) old new = reported request report before new

-- the same of what the code holds
abbrev pub texted : Result (Vec ℕ) Refusal → Result (List ℕ) Refusal
texted (Ok text) = Ok text.items
texted (Err refusal) = Err refusal
