use Rattle.std.specs.Int.{to_be_bytes, w64}
use Rattle.std.proofs.Common.{◌≤◌, ◌+◌, List, ℕ, length, arith, ap, ◌∙◌}
use Rattle.tw_world.specs.Disk.{overwritten}
use Rattle.tw_world.proofs.Moments.{stays}
use Rattle.tw_journal.proofs.Between.{first_write}
use Rattle.tw_journal.proofs.checkpoint.write_slot.Goals as goal

pub returns-in_err-write_at-clause-any_moment : goal.returns-in_err-write_at-clause-any_moment
returns-in_err-write_at-clause-any_moment g c = λ tells settled.
    first_write g.D.Disk.model g.met.D.Disk.counts_now g.met.D.Disk.only_now c.args.disk.now c.write_at.new.self c.args.slot (c.args.slot + 8) c.args.slot _ tells settled (omega arith) (omega (arith, ap length c.to_be_bytes-bytes.ensures)) c.write_at.ensures.steps

pub returns-in_err-sync-clause-any_moment : goal.returns-in_err-sync-clause-any_moment
returns-in_err-sync-clause-any_moment g c = λ tells settled.
    stays g.D.Disk.model g.met.D.Disk.counts_now c.args.disk.now c.write_at.new.self c.sync.new.self _
    (first_write g.D.Disk.model g.met.D.Disk.counts_now g.met.D.Disk.only_now c.args.disk.now c.write_at.new.self c.args.slot (c.args.slot + 8) c.args.slot _ tells settled (omega arith) (omega (arith, ap length c.to_be_bytes-bytes.ensures)) c.write_at.ensures.steps)
    (c.write_at.ensures.steps.tells ∙ tells) c.sync.ensures.steps

pub returns-clause-any_moment : goal.returns-clause-any_moment
returns-clause-any_moment g c = λ tells settled.
    stays g.D.Disk.model g.met.D.Disk.counts_now c.args.disk.now c.write_at.new.self c.sync.new.self _
    (first_write g.D.Disk.model g.met.D.Disk.counts_now g.met.D.Disk.only_now c.args.disk.now c.write_at.new.self c.args.slot (c.args.slot + 8) c.args.slot _ tells settled (omega arith) (omega (arith, ap length c.to_be_bytes-bytes.ensures)) c.write_at.ensures.steps)
    (c.write_at.ensures.steps.tells ∙ tells) c.sync.ensures.steps

pub returns-clause-done : goal.returns-clause-done
returns-clause-done g c = λ tells.
    let m = g.D.Disk.model in
    let told = c.write_at.ensures.steps.tells ∙ tells in
    (c.sync.ensures.seen told ∙ c.in_ok-write_at.ensures.written tells ∙ ap (λ (b : List ℕ). overwritten c.args.slot b (m.seen c.args.disk.now)) c.to_be_bytes-bytes.ensures, c.in_ok-sync.ensures.settled told)
