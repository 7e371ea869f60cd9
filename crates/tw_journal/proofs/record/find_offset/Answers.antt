use Rattle.std.proofs.Common.{ℕ, arith, subst}
use Rattle.tw_world.proofs.Moments.{untouched, untouched_join}
use Rattle.tw_journal.specs.Reading.{LeadsTo}
use Rattle.tw_journal.proofs.Refusals.{passed_on, one_further, way_further, way_begins, not_found}
use Rattle.tw_journal.proofs.record.find_offset.Goals as goal

pub returns-in_err-at-clause-refused : goal.returns-in_err-at-clause-refused
returns-in_err-at-clause-refused g c =
    passed_on c.from_residual.result _ _ c.from_residual.ensures.1
    (not_found g.D.Disk.model c.args.disk.now c.args.start c.args.offsets.now c.args.n c.loop-number.disk c.read_size.new.disk c.loop-number.window c.loop-number.at c.loop-number.number c.in_err-at.field-0.0 c.loop-number.invariant c.loop-number-test.true c.in_err-at.ensures.refused)

pub loop-number-preserved : goal.loop-number-preserved
loop-number-preserved g c = record {
  inside = omega (arith, c.loop-number-test.true);
  untouched = untouched_join g.D.Disk.model c.args.disk.now c.loop-number.disk c.read_size.new.disk c.loop-number.invariant.untouched c.read_size.ensures.untouched;
  shown = c.read_size.ensures.window;
  way = way_further g.D.Disk.model c.args.disk.now c.args.start c.args.offsets.now c.args.n c.loop-number.disk c.read_size.new.disk c.loop-number.window c.loop-number.at c.loop-number.number c.in_ok-at.field-0 c.loop-number.invariant c.loop-number-test.true c.in_ok-at.ensures.size;
  so_far = one_further g.D.Disk.model c.args.disk.now c.args.start c.args.offsets.now c.args.n c.loop-number.disk c.read_size.new.disk c.loop-number.window c.loop-number.at c.loop-number.number c.in_ok-at.field-0 c.loop-number.invariant c.loop-number-test.true c.in_ok-at.ensures.size;
}

pub loop-number-init : goal.loop-number-init
loop-number-init g c = record {
  inside = c.nearest-near.ensures.inside;
  untouched = untouched g.D.Disk.model g.met.D.Disk.only_now c.args.disk.now;
  shown = c.requires.window;
  so_far = λ all held offsets inside. c.nearest-near.ensures.offset all offsets;
  way = λ tells. way_begins c.args.start c.args.offsets.now c.args.n (g.D.Disk.model.seen c.args.disk.now) c.nearest-near.result.number c.nearest-near.result.at c.nearest-near.ensures.number c.nearest-near.ensures.at;
}

pub returns-clause-way : goal.returns-clause-way
returns-clause-way g c = λ tells.
    subst (λ (k : ℕ). LeadsTo c.args.start c.args.offsets.now c.args.n (g.D.Disk.model.seen c.args.disk.now) k c.loop-number.at)
    (omega (arith, c.loop-number.invariant.inside, c.loop-number-test.false)) (c.loop-number.invariant.way tells)
