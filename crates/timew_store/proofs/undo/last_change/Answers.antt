use Rattle.std.proofs.Common.{sym, subst, arith}
use Rattle.tw_world.proofs.Moments.{untouched}
use Rattle.timew_month.specs.declared.body.Record.{Record}
use Rattle.timew_store.proofs.LastChange.{Deepens, walk_begun, walk_ended, walking_on, walking_found}
use Rattle.timew_store.proofs.undo.last_change.Goals as goal
use Rattle.timew_store.proofs.undo.last_change.Goals.{in-Undo, in-Change+else-depth-eq0}

pub loop-n-init : goal.loop-n-init
loop-n-init g c = record {
  inside = omega (arith, c.count-n.ensures);
  untouched = untouched g.D.Disk.model g.met.D.Disk.only_now c.args.disk.now;
  walked = λ bodies history on stands. walk_begun bodies history c.count-n.result (omega (arith, on.count, c.count-n.ensures)) stands;
}

pub returns-then-depth-eq0-clause-found : goal.returns-then-depth-eq0-clause-found
returns-then-depth-eq0-clause-found g c = λ bodies history on stands.
    walking_found g.D.Disk.model c.args.journal.now c.args.disk.now c.loop-n.disk c.loop-n.n c.loop-n.depth c.in_ok-files.field-0 c.loop-n.invariant (omega arith) c.in_ok-files.ensures.step c.in-Change.files c.in-Change.is c.if-depth-eq0.true bodies history on stands

pub loop-n-preserved-after-branch-2-2 : goal.loop-n-preserved-after-branch-2-2
loop-n-preserved-after-branch-2-2 g c =
    walking_on g.D.Disk.model c.args.journal.now c.args.disk.now c.loop-n.disk c.loop-n.n c.loop-n.depth c.in_ok-files.field-0 c.loop-n.invariant (omega arith) c.in_ok-files.ensures.step c.read_step.new.disk c.match-branch-2.depth c.read_step.ensures.untouched
    (elim c.match-branch-2.branch [
      | in-Undo w ↦ subst (λ (h : Record). Deepens h c.loop-n.depth c.match-branch-2.depth) (sym w.in-Undo.is) w.depth-is
      | in-Change+else-depth-eq0 w ↦ subst (λ (h : Record). Deepens h c.loop-n.depth c.match-branch-2.depth) (sym w.in-Change.is) (omega (arith, w.depth-is, w.if-depth-eq0.false))
    ])

pub loop-n-preserved : goal.loop-n-preserved
loop-n-preserved g c =
    walking_on g.D.Disk.model c.args.journal.now c.args.disk.now c.loop-n.disk c.loop-n.n c.loop-n.depth c.in_ok-files.field-0 c.loop-n.invariant (omega arith) c.in_ok-files.ensures.step c.read_step.new.disk c.match-branch-2.depth c.read_step.ensures.untouched
    (elim c.match-branch-2.branch [
      | in-Undo w ↦ subst (λ (h : Record). Deepens h c.loop-n.depth c.match-branch-2.depth) (sym w.in-Undo.is) w.depth-is
      | in-Change+else-depth-eq0 w ↦ subst (λ (h : Record). Deepens h c.loop-n.depth c.match-branch-2.depth) (sym w.in-Change.is) (omega (arith, w.depth-is, w.if-depth-eq0.false))
    ])

pub returns-clause-found : goal.returns-clause-found
returns-clause-found g c = λ bodies history on stands. walk_ended bodies history c.loop-n.n c.loop-n.depth (omega arith) (c.loop-n.invariant.walked bodies history on stands)
