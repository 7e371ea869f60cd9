-- What commands leave of a task's properties.
use Rattle.std.proofs.Common.{◌≡◌, ◌∙◌, refl, ℕ, true, false, List, Option, Some, None, Result, Ok, Err, codes}
use Rattle.std.specs.Fmt.{decimal}
use Rattle.std.specs.FinMap.{get, insert, len}
use Rattle.tw_world.specs.declared.Moment.{Moment}
use Rattle.tw_model.specs.Maps.{same_bytes, set_at}
use Rattle.tw_model.specs.Ops.{TaskValue}
use Rattle.tw_model.proofs.Maps.{get-set_at_apart}
use Rattle.tw_urgency.specs.Status.{status_of}
use Rattle.tw_urgency.specs.declared.status.Status.{Status}
use Rattle.tw_urgency.specs.declared.status.Status.TheVariants as status
use Rattle.tw_terms.specs.Scenes.{Scene}
use Rattle.tw_words.specs.Lines.{Parts}
use Rattle.tw_words.specs.Readings.{taken}
use Rattle.tw_words.specs.declared.command.Command.{Command}
use Rattle.tw_words.specs.declared.command.Command.TheVariants as command
use Rattle.tw_words.proofs.KeptModified.{taken_kept}
use Rattle.tw_changes.specs.Marks.{sign_of}
use Rattle.tw_changes.specs.Spaced.{rest_text}
use Rattle.tw_changes.specs.Effects.Append.{appended, prepended}
use Rattle.tw_changes.specs.Effects.Annotate.{annotation_at, free_second}
use Rattle.tw_changes.specs.Effects.Denotate.{first_second, or_else, without_annotation}
use Rattle.tw_changes.specs.Effects.Done.{ended, done_by, delete_by}
use Rattle.tw_changes.specs.Effects.Purge.{purge_by}
use Rattle.tw_changes.specs.Effects.Start.{if_pending, begun, left}
use Rattle.tw_changes.specs.Editing.{effect_of}
use Rattle.tw_changes.specs.declared.effects.Effect.{Effect}
use Rattle.tw_changes.specs.declared.effects.Effect.TheVariants.{Nothing, Becomes, Removed}
use Rattle.tw_changes.specs.declared.marks.Sign.{Sign}

abbrev modified : List ℕ
modified = codes "modified"

-- a task has what another has of a property
abbrev pub Keeps : (p : List ℕ) → (before after : TaskValue) → Type 0
Keeps p before after = get after p ≡ get before p

-- ---- effects

-- a task that is left keeps the property
abbrev pub IsKeptBy : (p : List ℕ) → TaskValue → Effect → Type 0
IsKeptBy p task Nothing = Unit {0}
IsKeptBy p task (Becomes after) = Keeps p task after
IsKeptBy p task Removed = Unit {0}

-- a task that ends keeps what is neither `end` nor `status`
ended_kept : (p : List ℕ) (now : Moment) (word : List ℕ) (task left : TaskValue) → same_bytes p (codes "end") ≡ false → same_bytes p (codes "status") ≡ false → Keeps p task left
    → Keeps p task (ended now word left)
ended_kept p now word task left not_end not_status so_far =
    get-set_at_apart (insert left (codes "end") (decimal now.seconds)) (codes "status") (Some word) p not_status
    ∙ get-set_at_apart left (codes "end") (Some (decimal now.seconds)) p not_end ∙ so_far

module _ (p : List ℕ) (now : Moment) (task : TaskValue) (not_end : same_bytes p (codes "end") ≡ false) (not_status : same_bytes p (codes "status") ≡ false) (not_start : same_bytes p (codes "start") ≡ false) where
  completed_kept : Keeps p task (ended now (codes "completed") (set_at task (codes "start") None))
  completed_kept = ended_kept p now (codes "completed") task (set_at task (codes "start") None) not_end not_status (get-set_at_apart task (codes "start") None p not_start)

  done_kept : (s : Status) → IsKeptBy p task (done_by now s task)
  done_kept status.Pending = completed_kept
  done_kept status.Waiting = completed_kept
  done_kept status.Completed = tt
  done_kept status.Deleted = tt
  done_kept status.Recurring = tt
  done_kept status.Other = tt

  delete_kept : (s : Status) → IsKeptBy p task (delete_by now s task)
  delete_kept status.Pending = ended_kept p now (codes "deleted") task task not_end not_status refl
  delete_kept status.Waiting = ended_kept p now (codes "deleted") task task not_end not_status refl
  delete_kept status.Recurring = ended_kept p now (codes "deleted") task task not_end not_status refl
  delete_kept status.Completed = tt
  delete_kept status.Deleted = tt
  delete_kept status.Other = tt

purge_kept : (task : TaskValue) (s : Status) → IsKeptBy modified task (purge_by s)
purge_kept task status.Deleted = tt
purge_kept task status.Pending = tt
purge_kept task status.Waiting = tt
purge_kept task status.Completed = tt
purge_kept task status.Recurring = tt
purge_kept task status.Other = tt

pending_kept : (task : TaskValue) (s : Status) (effect : Effect) → IsKeptBy modified task effect → IsKeptBy modified task (if_pending s effect)
pending_kept task status.Pending effect is = is
pending_kept task status.Waiting effect is = is
pending_kept task status.Completed effect is = tt
pending_kept task status.Deleted effect is = tt
pending_kept task status.Recurring effect is = tt
pending_kept task status.Other effect is = tt

begun_kept : (now : Moment) (task : TaskValue) (o : Option (List ℕ)) → IsKeptBy modified task (begun now task o)
begun_kept now task None = get-set_at_apart task (codes "start") (Some (decimal now.seconds)) modified refl
begun_kept now task (Some second) = tt

left_kept : (task : TaskValue) (o : Option (List ℕ)) → IsKeptBy modified task (left task o)
left_kept task None = tt
left_kept task (Some second) = get-set_at_apart task (codes "start") None modified refl

annotation_kept : (task : TaskValue) (o : Option ℕ) → IsKeptBy modified task (without_annotation task o)
annotation_kept task None = tt
annotation_kept task (Some second) = get-set_at_apart task (annotation_at second) None modified refl

-- a task keeps its `modified`, before it is stamped
pub effect_kept : (c : Command) (scene : Scene) (line : Parts) (now : Moment) (task : TaskValue) → IsKeptBy modified task (effect_of c (taken scene line) line now task)
effect_kept command.Modify scene line now task = taken_kept scene line task
effect_kept command.Append scene line now task = get-set_at_apart task (codes "description") (Some (appended (rest_text line) (get task (codes "description")))) modified refl
effect_kept command.Prepend scene line now task = get-set_at_apart task (codes "description") (Some (prepended (rest_text line) (get task (codes "description")))) modified refl
effect_kept command.Annotate scene line now task = get-set_at_apart task (annotation_at (free_second (len task) task now.seconds)) (Some (rest_text line)) modified refl
effect_kept command.Denotate scene line now task = annotation_kept task (or_else (first_second true (rest_text line) task) (first_second false (rest_text line) task))
effect_kept command.Done scene line now task = done_kept modified now task refl refl refl (status_of task now.seconds)
effect_kept command.Delete scene line now task = delete_kept modified now task refl refl refl (status_of task now.seconds)
effect_kept command.Purge scene line now task = purge_kept task (status_of task now.seconds)
effect_kept command.Start scene line now task = pending_kept task (status_of task now.seconds) (begun now task (get task (codes "start"))) (begun_kept now task (get task (codes "start")))
effect_kept command.Stop scene line now task = pending_kept task (status_of task now.seconds) (left task (get task (codes "start"))) (left_kept task (get task (codes "start")))
effect_kept _ scene line now task = tt

-- a task that ends by a command that marks its template keeps its own mask
pub mask_kept : (c : Command) (sign : Sign) (scene : Scene) (line : Parts) (now : Moment) (task : TaskValue) → sign_of c ≡ Some sign → IsKeptBy (codes "mask") task (effect_of c (taken scene line) line now task)
mask_kept command.Done sign scene line now task is = done_kept (codes "mask") now task refl refl refl (status_of task now.seconds)
mask_kept command.Delete sign scene line now task is = delete_kept (codes "mask") now task refl refl refl (status_of task now.seconds)
mask_kept _ sign scene line now task is = absurd cc
