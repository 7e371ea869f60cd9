use Rattle.std.proofs.Common.{◌≡◌, ℕ, List, Result, sym, subst}
use Rattle.timew_interval.specs.declared.edit.Edit.{Edit}
use Rattle.timew_interval.specs.declared.interval.Interval.{Interval}
use Rattle.timew_interval.specs.Edit.{edited}
use Rattle.timew_words.specs.declared.command.Changing.{Changing}
use Rattle.timew_cmd.specs.declared.error.TimewError.{TimewError}
use Rattle.timew_cmd.specs.Planned.{Answers, planned}
use Rattle.timew_cmd.specs.Commands.Delete.{deleted}
use Rattle.timew_cmd.specs.Commands.Split.{split_all}
use Rattle.timew_cmd.proofs.planning.plan_rows.Goals as goal

-- what is planned of the command that it is
of_command : {command is : Changing} (rows : List Interval) (now : ℕ) (r : Result Edit TimewError) → command ≡ is → Answers (λ (e : Edit). edited e rows) r (planned is rows now) → Answers (λ (e : Edit). edited e rows) r (planned command rows now)
of_command rows now r same answers = subst (λ (x : Changing). Answers (λ (e : Edit). edited e rows) r (planned x rows now)) (sym same) answers

pub returns-in-Delete-clause-planned : goal.returns-in-Delete-clause-planned
returns-in-Delete-clause-planned c = of_command c.args.rows.now c.args.now c.delete.result c.in-Delete.is
    (subst (λ (l : List ℕ). Answers (λ (e : Edit). edited e c.args.rows.now) c.delete.result (deleted l c.args.rows.now)) c.as_slice.ensures c.delete.ensures.deleted)

pub returns-in-Split-clause-planned : goal.returns-in-Split-clause-planned
returns-in-Split-clause-planned c = of_command c.args.rows.now c.args.now c.split.result c.in-Split.is
    (subst (λ (l : List ℕ). Answers (λ (e : Edit). edited e c.args.rows.now) c.split.result (split_all l c.args.rows.now c.args.now)) c.as_slice-in-Split.ensures c.split.ensures.split)
