use Rattle.std.proofs.Common.{◌≡◌, ◌++◌, ◌∙◌, List, false, length, ap, arith}
use Rattle.tw_model.specs.declared.Op.{Op}
use Rattle.tw_state.specs.Groups.{group_in}
use Rattle.tw_state.proofs.PendingBodies.{written_holds}
use Rattle.tw_numbers.proofs.Basics.{on_ok_map}
use Rattle.tw_state.proofs.restore.keep_command.Goals as goal

pub keep-requires : goal.keep-requires
keep-requires c =
    let holds : group_in c.in_ok-body.body.items ≡ c.args.ops.now.items = written_holds c.in_ok-body.body.items false c.args.ops.now.items (c.in_ok-body.ensures.ops, c.requires) c.in_ok-body.ensures.body (omega arith) in
    omega (arith, ap length holds)

pub returns : goal.returns
returns c =
    let holds : group_in c.in_ok-body.body.items ≡ c.args.ops.now.items = written_holds c.in_ok-body.body.items false c.args.ops.now.items (c.in_ok-body.ensures.ops, c.requires) c.in_ok-body.ensures.body (omega arith) in
    on_ok_map c.keep.result c.keep.ensures.ok (λ e. e ∙ ap (λ (l : List Op). c.args.pending.now ++ l) holds)
