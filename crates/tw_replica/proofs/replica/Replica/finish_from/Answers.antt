use Rattle.std.proofs.Common.{◌≡◌, ◌∙◌, ◌∷◌, [], List, ℕ, Some, ap, sym, subst}
use Rattle.tw_world.specs.Disk.{LeavesOnly}
use Rattle.tw_bodies.specs.Body.{body_of, IsStep}
use Rattle.tw_bodies.specs.Body.Step.{Checkpoint}
use Rattle.tw_state.specs.State.{State}
use Rattle.tw_state.specs.Core.{state_of}
use Rattle.tw_state.specs.Sound.{IsSound}
use Rattle.tw_replica.specs.Replica.{magic, taken_over, taking_over, OpensToEither}
use Rattle.tw_replica.proofs.RecordSizes.{bodies_size, grows_by}
use Rattle.tw_state.proofs.Soundness.{held_assigned, sound_is}
use Rattle.tw_replica.proofs.RecordAdded.{either_moment, stands_then, nothing_written}
use Rattle.tw_replica.proofs.TakingOver.{taken_over_sound, takes_over}
use Rattle.tw_replica.proofs.replica.Replica.finish_from.Goals as goal

pub places_of-requires : goal.places_of-requires
places_of-requires g c = held_assigned c.args.self.now.core c.args.self.now.sound

pub returns-in_err-numbers-clause-any_moment : goal.returns-in_err-numbers-clause-any_moment
returns-in_err-numbers-clause-any_moment g c = λ bodies on. nothing_written g.D.Disk.model g.met.D.Disk.only_now c.args.self.now c.args.disk.now bodies (Some (taken_over c.args.base c.args.tasks c.args.self.now)) on

pub returns-in_err-body-clause-any_moment : goal.returns-in_err-body-clause-any_moment
returns-in_err-body-clause-any_moment g c = λ bodies on. nothing_written g.D.Disk.model g.met.D.Disk.only_now c.args.self.now c.args.disk.now bodies (Some (taken_over c.args.base c.args.tasks c.args.self.now)) on

pub returns-in-Err-clause-any_moment : goal.returns-in-Err-clause-any_moment
returns-in-Err-clause-any_moment g c = λ bodies on.
    let m = g.D.Disk.model in
    let old = state_of c.args.self.now.core in
    let new = taken_over c.args.base c.args.tasks c.args.self.now in
    let step = taking_over c.args.base c.args.tasks c.args.self.now in
    let leads = takes_over c.args.base c.args.tasks old (held_assigned c.args.self.now.core c.args.self.now.sound) in
    let spelled : c.deref.result.now ≡ body_of step = c.deref.ensures.value ∙ c.in_ok-body.ensures.body ∙ ap (λ ps. body_of (Checkpoint c.args.base ps c.args.tasks [])) c.in_ok-numbers.ensures in
    let is : IsStep step = subst (λ ps. IsStep (Checkpoint c.args.base ps c.args.tasks [])) c.in_ok-numbers.ensures c.in_ok-body.ensures.is in
    subst (λ o. LeavesOnly m c.args.disk.now c.append.new.disk (OpensToEither old o)) leads
    (either_moment m c.args.disk.now c.append.new.disk bodies step c.deref.result.now old new on.stands is spelled leads (c.append.ensures.any_moment magic bodies on.open_on))

pub returns-clause-any_moment : goal.returns-clause-any_moment
returns-clause-any_moment g c = λ bodies on.
    let m = g.D.Disk.model in
    let old = state_of c.args.self.now.core in
    let new = taken_over c.args.base c.args.tasks c.args.self.now in
    let step = taking_over c.args.base c.args.tasks c.args.self.now in
    let leads = takes_over c.args.base c.args.tasks old (held_assigned c.args.self.now.core c.args.self.now.sound) in
    let spelled : c.deref.result.now ≡ body_of step = c.deref.ensures.value ∙ c.in_ok-body.ensures.body ∙ ap (λ ps. body_of (Checkpoint c.args.base ps c.args.tasks [])) c.in_ok-numbers.ensures in
    let is : IsStep step = subst (λ ps. IsStep (Checkpoint c.args.base ps c.args.tasks [])) c.in_ok-numbers.ensures c.in_ok-body.ensures.is in
    subst (λ o. LeavesOnly m c.args.disk.now c.append.new.disk (OpensToEither old o)) leads
    (either_moment m c.args.disk.now c.append.new.disk bodies step c.deref.result.now old new on.stands is spelled leads (c.append.ensures.any_moment magic bodies on.open_on))

pub returns-in-Err-clause-growth : goal.returns-in-Err-clause-growth
returns-in-Err-clause-growth g c = λ bodies on.
    let step = taking_over c.args.base c.args.tasks c.args.self.now in
    let spelled : c.deref.result.now ≡ body_of step = c.deref.ensures.value ∙ c.in_ok-body.ensures.body ∙ ap (λ ps. body_of (Checkpoint c.args.base ps c.args.tasks [])) c.in_ok-numbers.ensures in
    grows_by g.D.Disk.model c.args.disk.now c.append.new.disk _ _ (bodies_size _ c.deref.result.now (ap (λ (l : List ℕ). l ∷ []) (sym spelled))) (c.append.ensures.growth magic bodies on.open_on)

pub returns-clause-growth : goal.returns-clause-growth
returns-clause-growth g c = λ bodies on.
    let step = taking_over c.args.base c.args.tasks c.args.self.now in
    let spelled : c.deref.result.now ≡ body_of step = c.deref.ensures.value ∙ c.in_ok-body.ensures.body ∙ ap (λ ps. body_of (Checkpoint c.args.base ps c.args.tasks [])) c.in_ok-numbers.ensures in
    grows_by g.D.Disk.model c.args.disk.now c.append.new.disk _ _ (bodies_size _ c.deref.result.now (ap (λ (l : List ℕ). l ∷ []) (sym spelled))) (c.append.ensures.growth magic bodies on.open_on)

pub invariant_of-self-2 : goal.invariant_of-self-2
invariant_of-self-2 g c =
    let old = state_of c.args.self.now.core in
    let held : State = record { base = c.args.base; pending = c.new-none.result; tasks = c.args.tasks; numbers = c.in_ok-numbers.numbers.items } in
    let same : held ≡ taken_over c.args.base c.args.tasks c.args.self.now = λ i. record { base = c.args.base; pending = c.new-none.ensures i; tasks = c.args.tasks; numbers = c.in_ok-numbers.ensures i } in
    record { sound = sound_is held (subst IsSound (sym same) (taken_over_sound c.args.base c.args.tasks old (held_assigned c.args.self.now.core c.args.self.now.sound))) }

pub returns-clause-stands : goal.returns-clause-stands
returns-clause-stands g c = λ bodies on.
    let old = state_of c.args.self.now.core in
    let new = taken_over c.args.base c.args.tasks c.args.self.now in
    let step = taking_over c.args.base c.args.tasks c.args.self.now in
    let held : State = record { base = c.args.base; pending = c.new-none.result; tasks = c.args.tasks; numbers = c.in_ok-numbers.numbers.items } in
    let same : held ≡ new = λ i. record { base = c.args.base; pending = c.new-none.ensures i; tasks = c.args.tasks; numbers = c.in_ok-numbers.ensures i } in
    let leads = takes_over c.args.base c.args.tasks old (held_assigned c.args.self.now.core c.args.self.now.sound) in
    let spelled : c.deref.result.now ≡ body_of step = c.deref.ensures.value ∙ c.in_ok-body.ensures.body ∙ ap (λ ps. body_of (Checkpoint c.args.base ps c.args.tasks [])) c.in_ok-numbers.ensures in
    let is : IsStep step = subst (λ ps. IsStep (Checkpoint c.args.base ps c.args.tasks [])) c.in_ok-numbers.ensures c.in_ok-body.ensures.is in
    stands_then g.D.Disk.model c.args.self.now _ c.args.disk.now c.append.new.disk bodies step c.deref.result.now on is spelled (leads ∙ ap (λ s. Some s) (sym same)) (c.in_default.ensures.appended magic bodies on.open_on)
