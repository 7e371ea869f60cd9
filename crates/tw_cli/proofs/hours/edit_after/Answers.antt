use Rattle.std.proofs.Common.{◌∙◌, ap, sym, subst, ◌<◌, length, drop, ℕ, List}
use Rattle.std.specs.FinMap.{get}
use Rattle.tw_model.specs.Ops.{TasksValue}
use Rattle.tw_model.specs.declared.Op.{Op}
use Rattle.tw_replica.specs.Prepared.{prepared_state}
use Rattle.tw_state.specs.Touched.{is_touched}
use Rattle.tw_state.proofs.OthersUnchanged.{all_applied_apart}
use Rattle.tw_cli.proofs.hours.edit_after.Goals as goal

pub track_tail_among-requires-clause-changed : goal.track_tail_among-requires-clause-changed
track_tail_among-requires-clause-changed c =
    let new = prepared_state c.args.after.now in
    let from = c.args.before.now.pending in
    let more : from < length new.pending =
    subst (λ (n : ℕ). from < n) (c.len.ensures ∙ ap (λ (ops : List Op). length ops) c.pending.ensures) (c.made_few.ensures c.if-not-made_few.false) in (
      c.requires.known.0,
      c.requires.known.1,
      λ u out.
          ap (λ (t : TasksValue). get t u) (c.tasks-2.ensures ∙ c.requires.known.2 more)
          ∙ all_applied_apart c.requires.known.0 (drop from new.pending) u
          (ap (λ (ops : List Op). is_touched (drop from ops) u) (sym c.pending-2.ensures) ∙ sym (c.in_ok-named.ensures u) ∙ out),
    )
