use Rattle.std.proofs.Common.{◌≤◌, subst, arith, ap, ◌∙◌, ℕ, length, take}
use Rattle.tw_world.specs.Disk.{LeavesOnly}
use Rattle.tw_world.proofs.Moments.{joined, weaker}
use Rattle.tw_journal.specs.Writes.{IsOldOr}
use Rattle.tw_journal.specs.Upgrade.{HasAtMost}
use Rattle.tw_journal.specs.declared.form.Form.{Form}
use Rattle.tw_journal.proofs.Rows.{cut_has, cut_settled}
use Rattle.tw_journal.proofs.Ending.{ended_low, ended_behind}
use Rattle.tw_journal.proofs.settle.settle.Goals as goal

pub returns-in_err-now-clause-any_moment : goal.returns-in_err-now-clause-any_moment
returns-in_err-now-clause-any_moment g c = λ magic bodies tells settled version row. c.end_form.ensures.any_moment magic bodies tells settled version row

pub returns-in_err-cut_tail-clause-any_moment : goal.returns-in_err-cut_tail-clause-any_moment
returns-in_err-cut_tail-clause-any_moment g c = λ magic bodies tells settled version row.
    let m = g.D.Disk.model in
    let mid = c.end_form.new.disk in
    let is = c.in_ok-now.ensures.done magic bodies tells settled version row in
    let told = c.end_form.ensures.kept.tells ∙ tells in
    let inside : c.args.end ≤ length (m.seen mid) = omega (arith, c.requires.inside, c.requires.len, c.end_form.ensures.len, g.met.D.Disk.has_length mid told) in
    joined m c.args.disk.now mid c.cut_tail.new.disk (HasAtMost magic bodies (length (m.seen c.args.disk.now))) (c.end_form.ensures.any_moment magic bodies tells settled version row)
    (subst (λ (n : ℕ). LeavesOnly m mid c.cut_tail.new.disk (HasAtMost magic bodies n)) is.long
    (weaker m mid c.cut_tail.new.disk (IsOldOr (take c.args.end) (m.seen mid)) (HasAtMost magic bodies (length (m.seen mid))) (c.cut_tail.ensures.any_moment told is.settled)
    (cut_has magic (m.seen mid) c.in_ok-now.now c.args.end bodies is.row (ended_low c.args.version c.args.form c.in_ok-now.now c.in_ok-now.ensures.form c.requires.range) inside)))

pub returns-clause-any_moment : goal.returns-clause-any_moment
returns-clause-any_moment g c = λ magic bodies tells settled version row.
    let m = g.D.Disk.model in
    let mid = c.end_form.new.disk in
    let is = c.in_ok-now.ensures.done magic bodies tells settled version row in
    let told = c.end_form.ensures.kept.tells ∙ tells in
    let inside : c.args.end ≤ length (m.seen mid) = omega (arith, c.requires.inside, c.requires.len, c.end_form.ensures.len, g.met.D.Disk.has_length mid told) in
    joined m c.args.disk.now mid c.cut_tail.new.disk (HasAtMost magic bodies (length (m.seen c.args.disk.now))) (c.end_form.ensures.any_moment magic bodies tells settled version row)
    (subst (λ (n : ℕ). LeavesOnly m mid c.cut_tail.new.disk (HasAtMost magic bodies n)) is.long
    (weaker m mid c.cut_tail.new.disk (IsOldOr (take c.args.end) (m.seen mid)) (HasAtMost magic bodies (length (m.seen mid))) (c.cut_tail.ensures.any_moment told is.settled)
    (cut_has magic (m.seen mid) c.in_ok-now.now c.args.end bodies is.row (ended_low c.args.version c.args.form c.in_ok-now.now c.in_ok-now.ensures.form c.requires.range) inside)))

pub returns-clause-done : goal.returns-clause-done
returns-clause-done g c = λ magic bodies tells settled version row.
    let m = g.D.Disk.model in
    let mid = c.end_form.new.disk in
    let is = c.in_ok-now.ensures.done magic bodies tells settled version row in
    let told = c.end_form.ensures.kept.tells ∙ tells in
    let inside : c.args.end ≤ length (m.seen mid) = omega (arith, c.requires.inside, c.requires.len, c.end_form.ensures.len, g.met.D.Disk.has_length mid told) in
    let cut = c.in_ok-cut_tail.ensures.done told is.settled in
    cut_settled magic (m.seen mid) c.in_ok-now.now c.args.end bodies is.row (ended_low c.args.version c.args.form c.in_ok-now.now c.in_ok-now.ensures.form c.requires.range) inside
    m c.cut_tail.new.disk (c.cut_tail.ensures.kept.tells ∙ told) cut.1 cut.0

pub returns-clause-range : goal.returns-clause-range
returns-clause-range g c = (
  ended_low c.args.version c.args.form c.in_ok-now.now c.in_ok-now.ensures.form c.requires.range,
  ap (λ (f : Form). f.start) c.in_ok-now.ensures.form,
  ended_behind c.args.version c.args.form c.in_ok-now.now c.in_ok-now.ensures.form c.requires.areas,
)
