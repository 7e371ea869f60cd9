use Rattle.std.proofs.Common.{◌≡◌, ◌∙◌, Some, ap, sym, take, arith}
use Rattle.std.proofs.lemmas.List.{take_all}
use Rattle.std.proofs.lemmas.Result.{err_from_is_err_and}
use Rattle.tw_world.proofs.Moments.{untouched_join}
use Rattle.tw_state.specs.State.{start, replayed}
use Rattle.tw_state.specs.Core.{state_of}
use Rattle.tw_state.specs.declared.state.Core.{Core}
use Rattle.tw_journal.proofs.Offsets.{still_open}
use Rattle.tw_replica.specs.Replica.{magic}
use Rattle.tw_replica.proofs.Replaying.{replayed_more, replay_refused}
use Rattle.tw_replica.proofs.open.replay.replay.Goals as goal

pub returns-in_err-take_record-clause-refused : goal.returns-in_err-take_record-clause-refused
returns-in_err-take_record-clause-refused g c =
    let p = err_from_is_err_and c.from_residual.result c.from_residual.ensures.1 in
    let m = g.D.Disk.model in
    rw (p.1, p.2) (replay_refused m c.args.disk.now c.loop-n.disk c.take_record.new.disk c.args.journal.now c.loop-n.n (state_of c.loop-n.indexed.core) c.in_err-take_record.field-0.0 c.loop-n.invariant.0
    (λ bodies on. (omega (arith, on.count), c.loop-n.invariant.1 bodies on)) c.in_err-take_record.ensures.refused)

pub loop-n-preserved : goal.loop-n-preserved
loop-n-preserved g c =
    let m = g.D.Disk.model in (
      untouched_join m c.args.disk.now c.loop-n.disk c.take_record.new.disk c.loop-n.invariant.0 c.take_record.ensures.untouched,
      λ bodies on. replayed_more bodies c.loop-n.n (state_of c.loop-n.indexed.core) (state_of c.take_record.new.indexed.core) (omega (arith, on.count)) (c.loop-n.invariant.1 bodies on)
          (c.in_ok-take_record.ensures.step bodies (still_open m magic c.args.journal.now c.args.disk.now c.loop-n.disk bodies c.loop-n.invariant.0 on)),
      c.in_ok-take_record.ensures.ready,
      c.in_ok-take_record.ensures.window,
      c.in_ok-take_record.ensures.sound c.loop-n.invariant.4,
    )

pub returns-in_err-take_record-clause-untouched : goal.returns-in_err-take_record-clause-untouched
returns-in_err-take_record-clause-untouched g c = untouched_join g.D.Disk.model c.args.disk.now c.loop-n.disk c.take_record.new.disk c.loop-n.invariant.0 c.take_record.ensures.untouched

pub returns-clause-untouched : goal.returns-clause-untouched
returns-clause-untouched g c = c.loop-n.invariant.0

pub returns-clause-stands : goal.returns-clause-stands
returns-clause-stands g c = λ bodies on.
    let whole : take c.loop-n.n bodies ≡ bodies = take_all c.loop-n.n bodies (omega (arith, on.count)) in
    ap (replayed start) (sym whole) ∙ c.loop-n.invariant.1 bodies on ∙ ap (λ (core : Core). Some (state_of core)) (sym c.into_core.ensures)
