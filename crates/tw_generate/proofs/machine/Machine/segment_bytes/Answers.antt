use Rattle.std.proofs.Common.{◌≡◌, ◌∙◌, List, length, ap, sym, rules}
use Rattle.tw_model.specs.declared.SyncOp.{SyncOp}
use Rattle.tw_model.specs.declared.Op.{Op}
use Rattle.tw_segment.specs.Segment.{segment_text}
use Rattle.tw_replica.specs.Replica.{held_state}
use Rattle.tw_groups.specs.Groups.{Groups, groups_of}
use Rattle.tw_groups.specs.Cut.{first}
use Rattle.tw_path.specs.Path.{is_batch}
use Rattle.tw_generate.proofs.machine.Machine.segment_bytes.Goals as goal

pub returns-in-Ok : goal.returns-in-Ok
returns-in-Ok c =
    let kept : c.in_ok-ops.ops.items ≡ (held_state c.args.self.now.replica).pending = c.in_ok-ops.ensures ∙ c.pending.ensures in
    let sent : c.in_ok-sent.sent.items ≡ first is_batch (groups_of (held_state c.args.self.now.replica).pending) =
    c.in_ok-sent.ensures ∙ sym (ap (λ (x : List SyncOp × Groups). x.0) c.in_ok-batch.ensures) ∙ ap (first is_batch) c.in_ok-left.ensures ∙ ap (λ (ops : List Op). first is_batch (groups_of ops)) kept in
    let text = c.in-Ok.ensures.text in
    search rules ∙ ap length text ∙ ap (λ (ops : List SyncOp). length (segment_text ops)) sent
