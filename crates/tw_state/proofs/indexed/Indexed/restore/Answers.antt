use Rattle.std.proofs.Common.{◌∙◌, sym}
use Rattle.tw_numbers.proofs.TestedAssigned.{assigned_if}
use Rattle.tw_state.proofs.indexed.Indexed.restore.Goals as goal

pub returns-clause-ready : goal.returns-clause-ready
returns-clause-ready c = λ done. record {
  index = tt;
  assigned = assigned_if c.take_pending.new.tasks c.args.places.items (sym c.in_ok-is_assigned.ensures ∙ c.if-not-branch-2.false);
}
