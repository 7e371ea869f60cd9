use Rattle.std.proofs.Common.{ap}
use Rattle.tw_state.specs.State.{State, start}
use Rattle.tw_state.proofs.StepsTaken.{empty_assigned}
use Rattle.tw_state.proofs.Soundness.{start_sound, stays_sound}
use Rattle.tw_state.proofs.indexed.Indexed.new.Goals as goal

pub returns-clause-sound : goal.returns-clause-sound
returns-clause-sound c = stays_sound start _ c.new.ensures start_sound

pub returns-clause-ready : goal.returns-clause-ready
returns-clause-ready c = record {
  index = tt;
  assigned = empty_assigned c.new.result.numbers.items c.new.result.tasks (ap (λ (s : State). s.numbers) c.new.ensures) (ap (λ (s : State). s.tasks) c.new.ensures);
}
