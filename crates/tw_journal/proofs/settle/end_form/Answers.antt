use Rattle.std.proofs.Common.{◌≡◌, refl, sym, subst, arith, ap, ◌∙◌, List, ℕ, length}
use Rattle.tw_world.proofs.Moments.{at_rest, weaker}
use Rattle.tw_journal.specs.Upgrade.{HasAtMost, HasRow, IsEnding, ended_form}
use Rattle.tw_journal.specs.declared.form.Form.{Form}
use Rattle.tw_journal.proofs.Forms.{equal_holds, unequal}
use Rattle.tw_journal.proofs.Rows.{row_stays}
use Rattle.tw_journal.proofs.Ending.{other_form, apart_form, ending, ended_row, ended_long}
use Rattle.tw_journal.proofs.settle.end_form.Goals as goal

pub returns-then-form-ne4-clause-form : goal.returns-then-form-ne4-clause-form
returns-then-form-ne4-clause-form g c = other_form c.args.version c.args.form (unequal _ 4 c.if-form-ne4.true)

pub returns-then-form-ne4-clause-done : goal.returns-then-form-ne4-clause-done
returns-then-form-ne4-clause-done g c = λ magic bodies tells settled version row. record { row = row; settled = settled; long = refl }

pub returns-then-form-ne4-clause-any_moment : goal.returns-then-form-ne4-clause-any_moment
returns-then-form-ne4-clause-any_moment g c = λ magic bodies tells settled version row.
    let m = g.D.Disk.model in
    weaker m c.args.disk.now c.args.disk.now (λ f. f ≡ m.seen c.args.disk.now) (HasAtMost magic bodies (length (m.seen c.args.disk.now))) (at_rest m g.met.D.Disk.only_now c.args.disk.now settled)
    (row_stays magic (m.seen c.args.disk.now) c.args.form c.args.end bodies row)

pub returns-in_err-end_upgrade-clause-any_moment : goal.returns-in_err-end_upgrade-clause-any_moment
returns-in_err-end_upgrade-clause-any_moment g c = λ magic bodies tells settled version row.
    let m = g.D.Disk.model in
    weaker m c.args.disk.now c.end_upgrade.new.disk (IsEnding c.args.version c.args.form.start (m.seen c.args.disk.now)) (HasAtMost magic bodies (length (m.seen c.args.disk.now))) (c.end_upgrade.ensures.any_moment tells settled)
    (ending magic (m.seen c.args.disk.now) c.args.version c.args.end bodies c.args.form row c.if-form-ne4.false version (omega (arith, c.requires.start, c.requires.inside, c.requires.below)))

pub returns-clause-any_moment : goal.returns-clause-any_moment
returns-clause-any_moment g c = λ magic bodies tells settled version row.
    let m = g.D.Disk.model in
    weaker m c.args.disk.now c.end_upgrade.new.disk (IsEnding c.args.version c.args.form.start (m.seen c.args.disk.now)) (HasAtMost magic bodies (length (m.seen c.args.disk.now))) (c.end_upgrade.ensures.any_moment tells settled)
    (ending magic (m.seen c.args.disk.now) c.args.version c.args.end bodies c.args.form row c.if-form-ne4.false version (omega (arith, c.requires.start, c.requires.inside, c.requires.below)))

pub returns-clause-form : goal.returns-clause-form
returns-clause-form g c = apart_form c.args.version c.args.form (equal_holds _ 4 c.if-form-ne4.false)

pub returns-clause-done : goal.returns-clause-done
returns-clause-done g c = λ magic bodies tells settled version row.
    let m = g.D.Disk.model in
    let made = c.in_ok-end_upgrade.ensures.done tells settled in
    record {
      row = subst (λ (f : Form). HasRow magic (m.seen c.end_upgrade.new.disk) f c.args.end bodies) (sym (apart_form c.args.version c.args.form (equal_holds _ 4 c.if-form-ne4.false)))
          (subst (λ (s : List ℕ). HasRow magic s (ended_form c.args.version c.args.form) c.args.end bodies) (sym made.0) (ended_row magic (m.seen c.args.disk.now) c.args.version c.args.end bodies c.args.form row c.if-form-ne4.false version (omega (arith, c.requires.start, c.requires.inside, c.requires.below))));
      settled = made.1;
      long = ap length made.0 ∙ ended_long magic (m.seen c.args.disk.now) c.args.version c.args.end bodies c.args.form row c.if-form-ne4.false version (omega (arith, c.requires.start, c.requires.inside, c.requires.below));
    }
