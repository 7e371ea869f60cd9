use Rattle.std.proofs.Common.{◌^◌, ◌≡◌, ◌∙◌, ℕ, List, None, refl, ap, sym, subst, rules}
use Rattle.std.specs.Prelude.{option_map}
use Rattle.tw_protocol.specs.Chain.{same_id}
use Rattle.tw_state.specs.Core.{state_of}
use Rattle.tw_replica.specs.declared.error.RecordError.TheVariants as records
use Rattle.tw_sync.specs.Ends.Moved.{done_step, moved_by}
use Rattle.tw_sync.specs.Start.Start.{Base}
use Rattle.tw_sync.specs.Contract.{DoneEnd}
use Rattle.tw_sync.specs.declared.error.SyncError.TheVariants as errors
use Rattle.tw_sync.proofs.StepTaken.{nothing_grown}
use Rattle.tw_replica.proofs.RecordAdded.{nothing_written}
use Rattle.tw_sync.proofs.Hearing.{kept_same}
use Rattle.tw_sync.proofs.Served.{grows_same}
use Rattle.tw_sync.proofs.Results.{passed_on}
use Rattle.tw_sync.proofs.StoppedEnds.{forgotten_any, forgotten_refused, stop_fits, stop_pends, stopped_any, stopped_end_is, unstopped_any, unstopped_end}
use Rattle.tw_sync.proofs.Unheard.{unasked, no_memory}
use Rattle.tw_sync.proofs.SyncEnds.{end_fits, unmoved_any, unmoved_end, moved_any, moved_end, letter_end}
use Rattle.tw_sync.proofs.engine.meet_and_move.Goals as goal

-- ---- no cursor to begin at

pub returns-in_err-cursor-clause-any : goal.returns-in_err-cursor-clause-any
returns-in_err-cursor-clause-any g c = record {
  agrees = λ honest a fold. a;
  grows = λ honest. grows_same (g.L.Link.model.chain c.args.link.now);
  any_moment = λ bodies on. record { next = None; made = tt; end = λ h. tt; leaves = nothing_written g.D.Disk.model g.met.D.Disk.only_now c.args.replica.now c.args.disk.now bodies None on };
  growth = λ bodies on. nothing_grown g.D.Disk.model g.met.D.Disk.only_now c.args.disk.now (2 ^ 30);
  link_kept = kept_same g.L.Link.model c.args.link.now;
}

pub returns-in_err-cursor-clause-refused : goal.returns-in_err-cursor-clause-refused
returns-in_err-cursor-clause-refused g c =
    passed_on c.from_residual.result _ _ c.from_residual.ensures.1
    (no_memory g.D.Disk.model g.L.Link.model c.args.client c.args.host.now c.args.replica.now c.args.disk.now c.args.link.now c.args.link.now Base c.requires.open
    (unasked g.L.Link.model c.args.client c.args.host.now c.args.link.now errors.Memory (g.met.L.Link.tells_chain c.args.link.now)))

-- ---- the chain is met

pub end_at-requires-clause-fits : goal.end_at-requires-clause-fits
end_at-requires-clause-fits g c = end_fits g.L.Link.model c.args.client c.args.host.now c.tasks-hand.result.now Base c.args.replica.now tt c.args.link.now c.meet.new.link c.in_ok-cursor.cursor c.meet.new.cursor (g.met.L.Link.tells_chain c.args.link.now) (sym c.tasks-hand.ensures) c.in_ok-cursor.ensures c.in-Ok.ensures.met

pub returns-in_err-end_at-in-Ok-clause-any : goal.returns-in_err-end_at-in-Ok-clause-any
returns-in_err-end_at-in-Ok-clause-any g c =
    unmoved_any g.L.Link.model c.args.client c.args.host.now c.tasks-hand.result.now Base c.args.replica.now tt c.args.link.now c.meet.new.link c.in_ok-cursor.cursor c.meet.new.cursor (g.met.L.Link.tells_chain c.args.link.now) (sym c.tasks-hand.ensures) c.in_ok-cursor.ensures c.in-Ok.ensures.met g.D.Disk.model c.end_at.new.replica c.args.disk.now c.end_at.new.disk c.requires.open (λ r stands u. c.end_at.ensures.any_moment c.args.replica.now.core.tasks r stands) c.end_at.ensures.growth c.in_err-end_at-in-Ok.field-0.0 (λ r stands u. c.in_err-end_at-in-Ok.ensures.refused c.args.replica.now.core.tasks r stands)

pub returns-in_err-end_at-in-Ok-clause-refused : goal.returns-in_err-end_at-in-Ok-clause-refused
returns-in_err-end_at-in-Ok-clause-refused g c =
    passed_on c.from_residual-in_err-end_at-in-Ok.result _ _ c.from_residual-in_err-end_at-in-Ok.ensures.1
    (unmoved_end g.L.Link.model c.args.client c.args.host.now c.tasks-hand.result.now Base c.args.replica.now tt c.args.link.now c.meet.new.link c.in_ok-cursor.cursor c.meet.new.cursor (g.met.L.Link.tells_chain c.args.link.now) (sym c.tasks-hand.ensures) c.in_ok-cursor.ensures c.in-Ok.ensures.met g.D.Disk.model c.end_at.new.replica c.args.disk.now c.end_at.new.disk c.requires.open (λ r stands u. c.end_at.ensures.any_moment c.args.replica.now.core.tasks r stands) c.end_at.ensures.growth c.in_err-end_at-in-Ok.field-0.0 (λ r stands u. c.in_err-end_at-in-Ok.ensures.refused c.args.replica.now.core.tasks r stands))

pub returns-in_ok-end_at-in-Ok-clause-any : goal.returns-in_ok-end_at-in-Ok-clause-any
returns-in_ok-end_at-in-Ok-clause-any g c =
    moved_any g.L.Link.model c.args.client c.args.host.now c.tasks-hand.result.now Base c.args.replica.now tt c.args.link.now c.meet.new.link c.in_ok-cursor.cursor c.meet.new.cursor (g.met.L.Link.tells_chain c.args.link.now) (sym c.tasks-hand.ensures) c.in_ok-cursor.ensures c.in-Ok.ensures.met g.D.Disk.model c.end_at.new.replica c.args.disk.now c.end_at.new.disk c.requires.open (λ r stands u. c.end_at.ensures.any_moment c.args.replica.now.core.tasks r stands) c.end_at.ensures.growth (λ r stands u. c.in_ok-end_at-in-Ok.ensures.moved c.args.replica.now.core.tasks r stands)

pub returns-in_ok-end_at-in-Ok-clause-done : goal.returns-in_ok-end_at-in-Ok-clause-done
returns-in_ok-end_at-in-Ok-clause-done g c =
    subst (DoneEnd g.D.Disk.model g.L.Link.model c.args.client c.args.host.now Base c.args.replica.now c.end_at.new.replica c.args.disk.now c.end_at.new.disk c.args.link.now c.meet.new.link) (sym c.report-report.ensures)
    (moved_end g.L.Link.model c.args.client c.args.host.now c.tasks-hand.result.now Base c.args.replica.now tt c.args.link.now c.meet.new.link c.in_ok-cursor.cursor c.meet.new.cursor (g.met.L.Link.tells_chain c.args.link.now) (sym c.tasks-hand.ensures) c.in_ok-cursor.ensures c.in-Ok.ensures.met g.D.Disk.model c.end_at.new.replica c.args.disk.now c.end_at.new.disk c.requires.open (λ r stands u. c.end_at.ensures.any_moment c.args.replica.now.core.tasks r stands) c.end_at.ensures.growth (λ r stands u. c.in_ok-end_at-in-Ok.ensures.moved c.args.replica.now.core.tasks r stands))

-- the request for the snapshot is not made
pub returns-in_err-letter-in-Ok-clause-any : goal.returns-in_err-letter-in-Ok-clause-any
returns-in_err-letter-in-Ok-clause-any g c =
    unmoved_any g.L.Link.model c.args.client c.args.host.now c.tasks-hand.result.now Base c.args.replica.now tt c.args.link.now c.meet.new.link c.in_ok-cursor.cursor c.meet.new.cursor (g.met.L.Link.tells_chain c.args.link.now) (sym c.tasks-hand.ensures) c.in_ok-cursor.ensures c.in-Ok.ensures.met g.D.Disk.model c.args.replica.now c.args.disk.now c.args.disk.now c.requires.open
    (λ r stands u bodies on. nothing_written g.D.Disk.model g.met.D.Disk.only_now c.args.replica.now c.args.disk.now bodies (moved_by r.at (done_step r) (state_of c.args.replica.now.core)) on)
    (λ bodies on. nothing_grown g.D.Disk.model g.met.D.Disk.only_now c.args.disk.now (2 ^ 30)) records.Memory
    (λ r stands u. (ap (λ (h : List ℕ). same_id h c.args.replica.now.core.base) (sym stands.at) ∙ ap (λ (b : List ℕ). same_id c.meet.new.cursor.walker.at b) (sym c.base.ensures) ∙ c.in_err-letter-in-Ok.ensures.far, (c.requires.open, record { state = refl; journal = refl; disk = refl })))

pub returns-in_err-letter-in-Ok-clause-refused : goal.returns-in_err-letter-in-Ok-clause-refused
returns-in_err-letter-in-Ok-clause-refused g c =
    passed_on c.from_residual-in_err-letter-in-Ok.result _ _ c.from_residual-in_err-letter-in-Ok.ensures.1
    (unmoved_end g.L.Link.model c.args.client c.args.host.now c.tasks-hand.result.now Base c.args.replica.now tt c.args.link.now c.meet.new.link c.in_ok-cursor.cursor c.meet.new.cursor (g.met.L.Link.tells_chain c.args.link.now) (sym c.tasks-hand.ensures) c.in_ok-cursor.ensures c.in-Ok.ensures.met g.D.Disk.model c.args.replica.now c.args.disk.now c.args.disk.now c.requires.open
    (λ r stands u bodies on. nothing_written g.D.Disk.model g.met.D.Disk.only_now c.args.replica.now c.args.disk.now bodies (moved_by r.at (done_step r) (state_of c.args.replica.now.core)) on)
    (λ bodies on. nothing_grown g.D.Disk.model g.met.D.Disk.only_now c.args.disk.now (2 ^ 30)) records.Memory
    (λ r stands u. (ap (λ (h : List ℕ). same_id h c.args.replica.now.core.base) (sym stands.at) ∙ ap (λ (b : List ℕ). same_id c.meet.new.cursor.walker.at b) (sym c.base.ensures) ∙ c.in_err-letter-in-Ok.ensures.far, (c.requires.open, record { state = refl; journal = refl; disk = refl }))))

pub returns-in_ok-end_at-in-Ok-clause-letter : goal.returns-in_ok-end_at-in-Ok-clause-letter
returns-in_ok-end_at-in-Ok-clause-letter g c =
    letter_end g.L.Link.model c.args.client c.args.host.now c.tasks-hand.result.now Base c.args.replica.now tt c.args.link.now c.meet.new.link c.in_ok-cursor.cursor c.meet.new.cursor (g.met.L.Link.tells_chain c.args.link.now) (sym c.tasks-hand.ensures) c.in_ok-cursor.ensures c.in-Ok.ensures.met g.D.Disk.model c.end_at.new.replica c.args.disk.now c.end_at.new.disk c.requires.open (λ r stands u. c.end_at.ensures.any_moment c.args.replica.now.core.tasks r stands) c.end_at.ensures.growth
    (λ r stands u. c.in_ok-end_at-in-Ok.ensures.moved c.args.replica.now.core.tasks r stands) c.base.result c.base.ensures (option_map (λ v. v.items) c.in_ok-letter-in-Ok.letter) c.in_ok-letter-in-Ok.ensures.letter

-- ---- there was no memory

pub returns-in-Err-Memory-clause-any : goal.returns-in-Err-Memory-clause-any
returns-in-Err-Memory-clause-any g c =
    forgotten_any g.L.Link.model c.args.client c.args.host.now c.tasks-hand.result.now Base c.args.replica.now tt c.args.link.now c.meet.new.link c.in_ok-cursor.cursor c.meet.new.cursor c.in-Err-Memory.field-0 (g.met.L.Link.tells_chain c.args.link.now) (sym c.tasks-hand.ensures) c.in_ok-cursor.ensures c.in-Err-Memory.ensures.stopped g.D.Disk.model c.args.disk.now
    (λ bodies on. nothing_written g.D.Disk.model g.met.D.Disk.only_now c.args.replica.now c.args.disk.now bodies None on) (λ bodies on. nothing_grown g.D.Disk.model g.met.D.Disk.only_now c.args.disk.now (2 ^ 30))

pub returns-in-Err-Memory-clause-refused : goal.returns-in-Err-Memory-clause-refused
returns-in-Err-Memory-clause-refused g c =
    forgotten_refused g.L.Link.model c.args.client c.args.host.now c.tasks-hand.result.now Base c.args.replica.now tt c.args.link.now c.meet.new.link c.in_ok-cursor.cursor c.meet.new.cursor c.in-Err-Memory.field-0 (g.met.L.Link.tells_chain c.args.link.now) (sym c.tasks-hand.ensures) c.in_ok-cursor.ensures c.in-Err-Memory.ensures.stopped g.D.Disk.model c.args.disk.now c.in-Err-Memory.field-0-is c.requires.open

-- ---- it was stopped

pub stop_at-requires-clause-fits : goal.stop_at-requires-clause-fits
stop_at-requires-clause-fits g c =
    let other : ¬ (c.in-Err.error ≡ errors.Memory) = search rules in
    stop_fits g.L.Link.model c.args.client c.args.host.now c.tasks-hand.result.now Base c.args.replica.now tt c.args.link.now c.meet.new.link c.in_ok-cursor.cursor c.meet.new.cursor c.in-Err.error (g.met.L.Link.tells_chain c.args.link.now) (sym c.tasks-hand.ensures) c.in_ok-cursor.ensures c.in-Err.ensures.stopped other

pub stop_at-requires-clause-pends : goal.stop_at-requires-clause-pends
stop_at-requires-clause-pends g c =
    let other : ¬ (c.in-Err.error ≡ errors.Memory) = search rules in
    stop_pends g.L.Link.model c.args.client c.args.host.now c.tasks-hand.result.now Base c.args.replica.now tt c.args.link.now c.meet.new.link c.in_ok-cursor.cursor c.meet.new.cursor c.in-Err.error (g.met.L.Link.tells_chain c.args.link.now) (sym c.tasks-hand.ensures) c.in_ok-cursor.ensures c.in-Err.ensures.stopped other

pub returns-in_err-stop_at-in-Err-clause-any : goal.returns-in_err-stop_at-in-Err-clause-any
returns-in_err-stop_at-in-Err-clause-any g c =
    let other : ¬ (c.in-Err.error ≡ errors.Memory) = search rules in
    unstopped_any g.L.Link.model c.args.client c.args.host.now c.tasks-hand.result.now Base c.args.replica.now tt c.args.link.now c.meet.new.link c.in_ok-cursor.cursor c.meet.new.cursor c.in-Err.error (g.met.L.Link.tells_chain c.args.link.now) (sym c.tasks-hand.ensures) c.in_ok-cursor.ensures c.in-Err.ensures.stopped other g.D.Disk.model c.stop_at.new.replica c.args.disk.now c.stop_at.new.disk c.requires.open (λ r stands u. c.stop_at.ensures.any_moment c.args.replica.now.core.tasks r stands) c.stop_at.ensures.growth c.in_err-stop_at-in-Err.field-0.0 (λ honest. tt) (λ r stands u. c.in_err-stop_at-in-Err.ensures.refused c.args.replica.now.core.tasks r stands)

pub returns-in_err-stop_at-in-Err-clause-refused : goal.returns-in_err-stop_at-in-Err-clause-refused
returns-in_err-stop_at-in-Err-clause-refused g c =
    let other : ¬ (c.in-Err.error ≡ errors.Memory) = search rules in
    passed_on c.from_residual-in_err-stop_at-in-Err.result _ _ c.from_residual-in_err-stop_at-in-Err.ensures.1
    (unstopped_end g.L.Link.model c.args.client c.args.host.now c.tasks-hand.result.now Base c.args.replica.now tt c.args.link.now c.meet.new.link c.in_ok-cursor.cursor c.meet.new.cursor c.in-Err.error (g.met.L.Link.tells_chain c.args.link.now) (sym c.tasks-hand.ensures) c.in_ok-cursor.ensures c.in-Err.ensures.stopped other g.D.Disk.model c.stop_at.new.replica c.args.disk.now c.stop_at.new.disk c.requires.open (λ r stands u. c.stop_at.ensures.any_moment c.args.replica.now.core.tasks r stands) c.stop_at.ensures.growth c.in_err-stop_at-in-Err.field-0.0 (λ honest. tt) (λ r stands u. c.in_err-stop_at-in-Err.ensures.refused c.args.replica.now.core.tasks r stands))

pub returns-in_ok-stop_at-in-Err-clause-any : goal.returns-in_ok-stop_at-in-Err-clause-any
returns-in_ok-stop_at-in-Err-clause-any g c =
    let other : ¬ (c.in-Err.error ≡ errors.Memory) = search rules in
    stopped_any g.L.Link.model c.args.client c.args.host.now c.tasks-hand.result.now Base c.args.replica.now tt c.args.link.now c.meet.new.link c.in_ok-cursor.cursor c.meet.new.cursor c.in-Err.error (g.met.L.Link.tells_chain c.args.link.now) (sym c.tasks-hand.ensures) c.in_ok-cursor.ensures c.in-Err.ensures.stopped other g.D.Disk.model c.stop_at.new.replica c.args.disk.now c.stop_at.new.disk c.requires.open (λ r stands u. c.stop_at.ensures.any_moment c.args.replica.now.core.tasks r stands) c.stop_at.ensures.growth (λ r stands u. c.in_ok-stop_at-in-Err.ensures.moved c.args.replica.now.core.tasks r stands)

pub returns-in_ok-stop_at-in-Err-clause-refused : goal.returns-in_ok-stop_at-in-Err-clause-refused
returns-in_ok-stop_at-in-Err-clause-refused g c =
    let other : ¬ (c.in-Err.error ≡ errors.Memory) = search rules in
    stopped_end_is g.L.Link.model c.args.client c.args.host.now c.tasks-hand.result.now Base c.args.replica.now tt c.args.link.now c.meet.new.link c.in_ok-cursor.cursor c.meet.new.cursor c.in-Err.error (g.met.L.Link.tells_chain c.args.link.now) (sym c.tasks-hand.ensures) c.in_ok-cursor.ensures c.in-Err.ensures.stopped other g.D.Disk.model c.stop_at.new.replica c.args.disk.now c.stop_at.new.disk c.requires.open (λ r stands u. c.stop_at.ensures.any_moment c.args.replica.now.core.tasks r stands) c.stop_at.ensures.growth (λ r stands u. c.in_ok-stop_at-in-Err.ensures.moved c.args.replica.now.core.tasks r stands)
