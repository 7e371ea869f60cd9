use Rattle.std.proofs.Common.{◌∙◌, ◌∷◌, [], List, ℕ, refl, drop, ap}
use Rattle.tw_bodies.specs.Body.Step.{Undo}
use Rattle.tw_state.specs.Core.{state_of}
use Rattle.tw_numbers.specs.Numbering.{assigned}
use Rattle.tw_state.proofs.StatesReached.{is_undone}
use Rattle.tw_state.proofs.Soundness.{step_sound, held_assigned}
use Rattle.tw_state.proofs.PendingBodies.{last_told, last_split}
use Rattle.tw_replica.proofs.replica.Replica.take_back.Goals as goal

pub take_back_core-requires-clause-assigned : goal.take_back_core-requires-clause-assigned
take_back_core-requires-clause-assigned c = held_assigned c.args.self.core c.args.self.sound

pub invariant_of-result : goal.invariant_of-result
invariant_of-result c =
    let old = c.args.self.core in
    let last = last_told old.pending c.in_ok-group.field-0 c.in-Some.group c.in_ok-group.ensures c.in-Some.is in
    let e = c.in_ok-take_back_core.ensures in
    record {
      sound = step_sound Undo (state_of old) (state_of c.take_back_core.new.core) tt c.args.self.sound
          (is_undone (state_of old) (state_of c.take_back_core.new.core) last.left (drop 1 c.in-Some.group.items) (last_split old.pending c.in-Some.group.items last) e.base (e.pending last) e.tasks (e.numbers ∙ ap (assigned old.numbers.items) e.tasks));
    }

pub returns-clause-prepared : goal.returns-clause-prepared
returns-clause-prepared c =
    let old = c.args.self.core in
    let last = last_told old.pending c.in_ok-group.field-0 c.in-Some.group c.in_ok-group.ensures c.in-Some.is in
    let e = c.in_ok-take_back_core.ensures in
    record {
      journal = refl;
      leads = is_undone (state_of old) (state_of c.take_back_core.new.core) last.left (drop 1 c.in-Some.group.items) (last_split old.pending c.in-Some.group.items last) e.base (e.pending last) e.tasks (e.numbers ∙ ap (assigned old.numbers.items) e.tasks);
      bodies = ap (λ (b : List ℕ). b ∷ []) c.in_ok-undo_body.ensures;
      is = tt;
    }
