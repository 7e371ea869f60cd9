use Rattle.std.proofs.Common.{◌≡◌, ◌≤◌, ◌+◌, ◌++◌, ◌∙◌, List, ℕ, length, arith, ap}
use Rattle.tw_world.specs.Disk.{overwritten}
use Rattle.tw_world.proofs.Moments.{stays}
use Rattle.tw_world.proofs.Overwriting.{adjacent}
use Rattle.tw_journal.proofs.Between.{first_write, next_write}
use Rattle.tw_journal.proofs.settle.write_slots.Goals as goal

pub returns-in_err-write_at-clause-any_moment : goal.returns-in_err-write_at-clause-any_moment
returns-in_err-write_at-clause-any_moment g c = λ tells settled.
    first_write g.D.Disk.model g.met.D.Disk.counts_now g.met.D.Disk.only_now c.args.disk.now c.write_at.new.self 13 29 13 _ tells settled (omega arith) (omega (arith, ap length c.to_be_bytes-first.ensures)) c.write_at.ensures.steps

pub returns-in_err-write_at-2-clause-any_moment : goal.returns-in_err-write_at-2-clause-any_moment
returns-in_err-write_at-2-clause-any_moment g c = λ tells settled.
    next_write g.D.Disk.model g.met.D.Disk.counts_now c.args.disk.now c.write_at.new.self c.write_at-2.new.self 13 29 21 _
    (first_write g.D.Disk.model g.met.D.Disk.counts_now g.met.D.Disk.only_now c.args.disk.now c.write_at.new.self 13 29 13 _ tells settled (omega arith) (omega (arith, ap length c.to_be_bytes-first.ensures)) c.write_at.ensures.steps)
    (c.write_at.ensures.steps.tells ∙ tells) (omega arith) (omega (arith, ap length c.to_be_bytes-second.ensures)) c.write_at-2.ensures.steps

pub returns-in_err-sync-clause-any_moment : goal.returns-in_err-sync-clause-any_moment
returns-in_err-sync-clause-any_moment g c = λ tells settled.
    stays g.D.Disk.model g.met.D.Disk.counts_now c.args.disk.now c.write_at-2.new.self c.sync.new.self _
    (next_write g.D.Disk.model g.met.D.Disk.counts_now c.args.disk.now c.write_at.new.self c.write_at-2.new.self 13 29 21 _
    (first_write g.D.Disk.model g.met.D.Disk.counts_now g.met.D.Disk.only_now c.args.disk.now c.write_at.new.self 13 29 13 _ tells settled (omega arith) (omega (arith, ap length c.to_be_bytes-first.ensures)) c.write_at.ensures.steps)
    (c.write_at.ensures.steps.tells ∙ tells) (omega arith) (omega (arith, ap length c.to_be_bytes-second.ensures)) c.write_at-2.ensures.steps)
    (c.write_at-2.ensures.steps.tells ∙ c.write_at.ensures.steps.tells ∙ tells) c.sync.ensures.steps

pub returns-clause-any_moment : goal.returns-clause-any_moment
returns-clause-any_moment g c = λ tells settled.
    stays g.D.Disk.model g.met.D.Disk.counts_now c.args.disk.now c.write_at-2.new.self c.sync.new.self _
    (next_write g.D.Disk.model g.met.D.Disk.counts_now c.args.disk.now c.write_at.new.self c.write_at-2.new.self 13 29 21 _
    (first_write g.D.Disk.model g.met.D.Disk.counts_now g.met.D.Disk.only_now c.args.disk.now c.write_at.new.self 13 29 13 _ tells settled (omega arith) (omega (arith, ap length c.to_be_bytes-first.ensures)) c.write_at.ensures.steps)
    (c.write_at.ensures.steps.tells ∙ tells) (omega arith) (omega (arith, ap length c.to_be_bytes-second.ensures)) c.write_at-2.ensures.steps)
    (c.write_at-2.ensures.steps.tells ∙ c.write_at.ensures.steps.tells ∙ tells) c.sync.ensures.steps

pub returns-clause-done : goal.returns-clause-done
returns-clause-done g c = λ tells.
    let m = g.D.Disk.model in
    let s = m.seen c.args.disk.now in
    let told = c.write_at.ensures.steps.tells ∙ tells in
    let told_2 = c.write_at-2.ensures.steps.tells ∙ told in
    let first = c.to_be_bytes-first.result in
    let second = c.to_be_bytes-second.result in
    let next : 21 ≡ 13 + length first = omega (arith, ap length c.to_be_bytes-first.ensures) in
    let room : 13 + length first + length second ≤ length s = omega (arith, c.requires, g.met.D.Disk.has_length c.args.disk.now tells, ap length c.to_be_bytes-first.ensures, ap length c.to_be_bytes-second.ensures) in
    let seen : m.seen c.sync.new.self ≡ overwritten 13 (first ++ second) s =
    c.sync.ensures.seen told_2
    ∙ c.in_ok-write_at-2.ensures.written told
    ∙ ap (λ (l : List ℕ). overwritten 21 second l) (c.in_ok-write_at.ensures.written tells)
    ∙ ap (λ (k : ℕ). overwritten k second (overwritten 13 first s)) next
    ∙ adjacent 13 first second s room in
    (seen ∙ (λ i. overwritten 13 (c.to_be_bytes-first.ensures i ++ c.to_be_bytes-second.ensures i) s), c.in_ok-sync.ensures.settled told_2)
