use Rattle.std.proofs.Common.{◌∙◌, List, ℕ, ap, sym}
use Rattle.tw_journal.specs.Form.{offset_in}
use Rattle.tw_world.proofs.Moments.{untouched, untouched_join}
use Rattle.tw_state.specs.State.{stepped}
use Rattle.tw_state.specs.Core.{state_of}
use Rattle.tw_journal.proofs.Offsets.{still_open}
use Rattle.tw_replica.specs.Replica.{magic}
use Rattle.tw_state.proofs.Soundness.{body_sound}
use Rattle.tw_replica.proofs.Replaying.{step_taken, step_not_taken, reads_only, read_refused}
use Rattle.tw_replica.proofs.open.replay.take_record.Goals as goal

pub read_error-requires : goal.read_error-requires
read_error-requires g c = reads_only g.D.Disk.model c.args.disk.now c.body_through.new.disk c.args.journal.now c.in-Err.error c.requires.open_now c.in-Err.ensures.refused

pub returns-in-Err-clause-refused : goal.returns-in-Err-clause-refused
returns-in-Err-clause-refused g c = read_refused g.D.Disk.model c.args.disk.now c.args.disk.now c.body_through.new.disk c.args.journal.now c.args.n (state_of c.args.indexed.now.core) c.read_error.result c.in-Err.error c.requires.open_now c.read_error.ensures (untouched g.D.Disk.model g.met.D.Disk.only_now c.args.disk.now) c.in-Err.ensures.refused

pub returns-then-branch-clause-step : goal.returns-then-branch-clause-step
returns-then-branch-clause-step g c = λ bodies on.
    ap (stepped (state_of c.args.indexed.now.core)) (sym (c.in-Ok.ensures.body magic bodies on)) ∙ step_taken _ _ _ c.if-branch.true c.in_ok-step.ensures.step

pub returns-then-branch-clause-sound : goal.returns-then-branch-clause-sound
returns-then-branch-clause-sound g c = body_sound _ _ _ (step_taken _ _ _ c.if-branch.true c.in_ok-step.ensures.step)

pub returns-in-Ok-offset-clause-refused : goal.returns-in-Ok-offset-clause-refused
returns-in-Ok-offset-clause-refused g c = λ tells bodies on. (
  ap (stepped (state_of c.args.indexed.now.core)) (sym (c.in-Ok.ensures.body magic bodies on)) ∙ step_not_taken _ _ _ c.if-branch.false c.in_ok-step.ensures.step,
  c.in-Ok-offset.ensures.offset magic bodies (still_open g.D.Disk.model magic c.args.journal.now c.args.disk.now c.body_through.new.disk bodies c.body_through.ensures.untouched on) ∙ ap (λ (f : List ℕ). offset_in magic f bodies c.args.n) (c.body_through.ensures.untouched.seen tells),
)

pub read_error-requires-in-Err-offset : goal.read_error-requires-in-Err-offset
read_error-requires-in-Err-offset g c = reads_only g.D.Disk.model c.body_through.new.disk c.offset.new.disk c.args.journal.now c.in-Err-offset.error c.requires.open_now c.in-Err-offset.ensures.refused

pub returns-in-Err-offset-clause-refused : goal.returns-in-Err-offset-clause-refused
returns-in-Err-offset-clause-refused g c = read_refused g.D.Disk.model c.args.disk.now c.body_through.new.disk c.offset.new.disk c.args.journal.now c.args.n (state_of c.args.indexed.now.core) c.read_error-in-Err-offset.result c.in-Err-offset.error c.requires.open_now c.read_error-in-Err-offset.ensures c.body_through.ensures.untouched c.in-Err-offset.ensures.refused

pub returns-in-Err-clause-untouched : goal.returns-in-Err-clause-untouched
returns-in-Err-clause-untouched g c = c.body_through.ensures.untouched

pub returns-then-branch-clause-untouched : goal.returns-then-branch-clause-untouched
returns-then-branch-clause-untouched g c = c.body_through.ensures.untouched

pub returns-in_err-step-clause-untouched : goal.returns-in_err-step-clause-untouched
returns-in_err-step-clause-untouched g c = c.body_through.ensures.untouched

pub returns-in-Ok-offset-clause-untouched : goal.returns-in-Ok-offset-clause-untouched
returns-in-Ok-offset-clause-untouched g c = untouched_join g.D.Disk.model c.args.disk.now c.body_through.new.disk c.offset.new.disk c.body_through.ensures.untouched c.offset.ensures.untouched

pub returns-in-Err-offset-clause-untouched : goal.returns-in-Err-offset-clause-untouched
returns-in-Err-offset-clause-untouched g c = untouched_join g.D.Disk.model c.args.disk.now c.body_through.new.disk c.offset.new.disk c.body_through.ensures.untouched c.offset.ensures.untouched
