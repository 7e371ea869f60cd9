use Rattle.std.proofs.Common.{◌∙◌, List, ap}
use Rattle.tw_model.specs.Changes.{group_of}
use Rattle.tw_bodies.specs.Body.Step.{Commit}
use Rattle.tw_replica.specs.Prepared.{step_bodies}
use Rattle.tw_replica.proofs.PreparedEdits.{edited_leads, edited_sound, edited_is}
use Rattle.tw_model.specs.declared.Op.{Op}
use Rattle.tw_bodies.specs.Body.{is_group}
use Rattle.tw_state.proofs.CommittedChanges.{changes_are_group}
use Rattle.tw_replica.proofs.step.edit.Editing.prepare.Goals as goal

pub commit_core-requires : goal.commit_core-requires
commit_core-requires c =
    let r = c.requires in
    ap (λ (ops : List Op). is_group (group_of ops)) r.3.ops ∙ changes_are_group r.0.core.tasks r.1 r.2

pub invariant_of-result : goal.invariant_of-result
invariant_of-result c =
    let e = c.in_ok-body.ensures in
    let r = c.requires in
    record { sound = edited_sound r.0 r.1 r.2 c.args.self r.3 c.args.renumber c.commit_core.new.core e.base e.tasks e.idle e.pending e.numbers }

pub returns : goal.returns
returns c = λ old made at is.
    let e = c.in_ok-body.ensures in
    record {
      journal = is.journal;
      leads = edited_leads old made at c.args.self is c.args.renumber c.commit_core.new.core e.base e.tasks e.idle e.pending e.numbers;
      bodies = e.body ∙ ap (λ ops. step_bodies (Commit c.args.renumber (group_of ops))) is.ops;
      is = edited_is old made at c.args.self is c.args.renumber c.commit_core.new.core e.base e.tasks e.idle e.pending e.numbers e.is;
    }
