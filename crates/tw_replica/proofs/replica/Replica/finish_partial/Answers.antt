use Rattle.std.proofs.Common.{◌∙◌, ◌∷◌, [], List, ℕ, length, ap, sym, refl}
use Rattle.tw_journal.specs.Record.{rows}
use Rattle.tw_bodies.specs.Body.Step.{Partial}
use Rattle.tw_state.specs.State.{State, begins_with_point, partly}
use Rattle.tw_replica.specs.Prepared.{step_bodies}
use Rattle.tw_state.specs.Core.{state_of}
use Rattle.tw_replica.proofs.RecordSizes.{bodies_size, bodies_within, grows_by, nothing_grown}
use Rattle.tw_state.proofs.Soundness.{stays_sound, step_sound, held_assigned}
use Rattle.tw_replica.proofs.RecordAdded.{either_moment, stands_then, nothing_written}
use Rattle.tw_state.proofs.StatesReached.{is_partly, partly_on}
use Rattle.tw_numbers.proofs.Basics.{both_hold}
use Rattle.tw_replica.proofs.replica.Replica.finish_partial.Goals as goal

pub next_of_carried-requires : goal.next_of_carried-requires
next_of_carried-requires g c = held_assigned c.args.self.now.core c.args.self.now.sound

pub invariant_of-self : goal.invariant_of-self
invariant_of-self g c = record { sound = stays_sound (state_of c.args.self.now.core) _ c.in_err-write_next.ensures.refused.1 c.args.self.now.sound }

pub invariant_of-self-2 : goal.invariant_of-self-2
invariant_of-self-2 g c =
    let old = c.args.self.now.core in
    let core = c.write_next.new.core in
    let ops = c.args.ops in
    let e = c.in_ok-write_next.ensures in
    let new : State = record { base = c.args.base; pending = c.in_ok-kept.kept; tasks = core.tasks; numbers = core.numbers.items } in
    record { sound = step_sound (Partial c.args.base ops c.args.pending.items) (state_of old) new tt c.args.self.now.sound (is_partly c.args.base ops c.args.pending.items (state_of old) new c.in_ok-next.ensures.fits (c.requires.pends c.in_ok-next.ensures.fits) refl c.in_ok-kept.ensures (e.tasks ∙ c.in_ok-next.ensures.tasks) (e.numbers ∙ c.in_ok-next.ensures.numbers)) }

pub returns-clause-stands : goal.returns-clause-stands
returns-clause-stands g c = λ bodies on.
    let old = c.args.self.now in
    let core = c.write_next.new.core in
    let ops = c.args.ops in
    let e = c.in_ok-write_next.ensures in
    let new : State = record { base = c.args.base; pending = c.in_ok-kept.kept; tasks = core.tasks; numbers = core.numbers.items } in
    let done = is_partly c.args.base ops c.args.pending.items (state_of old.core) new c.in_ok-next.ensures.fits (c.requires.pends c.in_ok-next.ensures.fits) refl c.in_ok-kept.ensures (e.tasks ∙ c.in_ok-next.ensures.tasks) (e.numbers ∙ c.in_ok-next.ensures.numbers) in
    stands_then g.D.Disk.model old _ c.args.disk.now c.write_next.new.disk bodies (Partial c.args.base ops c.args.pending.items) c.deref.result.now on c.in_ok-body.ensures.is (c.deref.ensures.value ∙ c.in_ok-body.ensures.body) done (e.journal bodies on.open_on)

pub returns-in_err-write_next-clause-any_moment : goal.returns-in_err-write_next-clause-any_moment
returns-in_err-write_next-clause-any_moment g c = λ bodies on.
    either_moment g.D.Disk.model c.args.disk.now c.write_next.new.disk bodies (Partial c.args.base c.args.ops c.args.pending.items) c.deref.result.now (state_of c.args.self.now.core) _ on.stands c.in_ok-body.ensures.is (c.deref.ensures.value ∙ c.in_ok-body.ensures.body)
    (partly_on c.args.base c.args.ops c.args.pending.items (state_of c.args.self.now.core) c.in_ok-next.ensures.fits (c.requires.pends c.in_ok-next.ensures.fits)) (c.write_next.ensures.any_moment bodies on.open_on)

pub returns-clause-any_moment : goal.returns-clause-any_moment
returns-clause-any_moment g c = λ bodies on.
    either_moment g.D.Disk.model c.args.disk.now c.write_next.new.disk bodies (Partial c.args.base c.args.ops c.args.pending.items) c.deref.result.now (state_of c.args.self.now.core) _ on.stands c.in_ok-body.ensures.is (c.deref.ensures.value ∙ c.in_ok-body.ensures.body)
    (partly_on c.args.base c.args.ops c.args.pending.items (state_of c.args.self.now.core) c.in_ok-next.ensures.fits (c.requires.pends c.in_ok-next.ensures.fits)) (c.write_next.ensures.any_moment bodies on.open_on)

pub returns-then-is_closed-clause-any_moment : goal.returns-then-is_closed-clause-any_moment
returns-then-is_closed-clause-any_moment g c = λ bodies on. nothing_written g.D.Disk.model g.met.D.Disk.only_now c.args.self.now c.args.disk.now bodies (partly c.args.base c.args.ops c.args.pending.items (state_of c.args.self.now.core)) on

pub returns-in_err-next-clause-any_moment : goal.returns-in_err-next-clause-any_moment
returns-in_err-next-clause-any_moment g c = λ bodies on. nothing_written g.D.Disk.model g.met.D.Disk.only_now c.args.self.now c.args.disk.now bodies (partly c.args.base c.args.ops c.args.pending.items (state_of c.args.self.now.core)) on

pub returns-in_err-body-clause-any_moment : goal.returns-in_err-body-clause-any_moment
returns-in_err-body-clause-any_moment g c = λ bodies on. nothing_written g.D.Disk.model g.met.D.Disk.only_now c.args.self.now c.args.disk.now bodies (partly c.args.base c.args.ops c.args.pending.items (state_of c.args.self.now.core)) on

pub returns-in_err-kept-clause-any_moment : goal.returns-in_err-kept-clause-any_moment
returns-in_err-kept-clause-any_moment g c = λ bodies on. nothing_written g.D.Disk.model g.met.D.Disk.only_now c.args.self.now c.args.disk.now bodies (partly c.args.base c.args.ops c.args.pending.items (state_of c.args.self.now.core)) on

pub returns-then-is_closed-clause-growth : goal.returns-then-is_closed-clause-growth
returns-then-is_closed-clause-growth g c = λ bodies on. nothing_grown g.D.Disk.model g.met.D.Disk.only_now c.args.disk.now (length (rows (step_bodies (Partial c.args.base c.args.ops c.args.pending.items))))

pub returns-in_err-next-clause-growth : goal.returns-in_err-next-clause-growth
returns-in_err-next-clause-growth g c = λ bodies on. nothing_grown g.D.Disk.model g.met.D.Disk.only_now c.args.disk.now (length (rows (step_bodies (Partial c.args.base c.args.ops c.args.pending.items))))

pub returns-in_err-body-clause-growth : goal.returns-in_err-body-clause-growth
returns-in_err-body-clause-growth g c = λ bodies on. nothing_grown g.D.Disk.model g.met.D.Disk.only_now c.args.disk.now (length (rows (step_bodies (Partial c.args.base c.args.ops c.args.pending.items))))

pub returns-in_err-kept-clause-growth : goal.returns-in_err-kept-clause-growth
returns-in_err-kept-clause-growth g c = λ bodies on. nothing_grown g.D.Disk.model g.met.D.Disk.only_now c.args.disk.now (length (rows (step_bodies (Partial c.args.base c.args.ops c.args.pending.items))))

pub returns-in_err-write_next-clause-growth : goal.returns-in_err-write_next-clause-growth
returns-in_err-write_next-clause-growth g c = λ bodies on.
    let same = ap (λ (l : List ℕ). l ∷ []) (sym (c.deref.ensures.value ∙ c.in_ok-body.ensures.body)) in
    grows_by g.D.Disk.model c.args.disk.now c.write_next.new.disk _ _ (bodies_size _ c.deref.result.now same) (c.write_next.ensures.growth bodies on.open_on)

pub returns-clause-growth : goal.returns-clause-growth
returns-clause-growth g c = λ bodies on.
    let same = ap (λ (l : List ℕ). l ∷ []) (sym (c.deref.ensures.value ∙ c.in_ok-body.ensures.body)) in
    grows_by g.D.Disk.model c.args.disk.now c.write_next.new.disk _ _ (bodies_size _ c.deref.result.now same) (c.write_next.ensures.growth bodies on.open_on)

pub returns-clause-within : goal.returns-clause-within
returns-clause-within g c =
    let same = ap (λ (l : List ℕ). l ∷ []) (sym (c.deref.ensures.value ∙ c.in_ok-body.ensures.body)) in
    bodies_within _ c.deref.result.now same c.in_ok-write_next.ensures.accepted.1

pub returns-clause-partly : goal.returns-clause-partly
returns-clause-partly g c =
    let core = c.write_next.new.core in
    let e = c.in_ok-write_next.ensures in
    let new : State = record { base = c.args.base; pending = c.in_ok-kept.kept; tasks = core.tasks; numbers = core.numbers.items } in
    is_partly c.args.base c.args.ops c.args.pending.items (state_of c.args.self.now.core) new c.in_ok-next.ensures.fits (c.requires.pends c.in_ok-next.ensures.fits) refl c.in_ok-kept.ensures (e.tasks ∙ c.in_ok-next.ensures.tasks) (e.numbers ∙ c.in_ok-next.ensures.numbers)

pub pending_of-requires : goal.pending_of-requires
pending_of-requires g c = (both_hold (begins_with_point c.args.pending.items) _ (c.requires.pends c.in_ok-next.ensures.fits)).0
