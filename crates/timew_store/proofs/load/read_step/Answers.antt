use Rattle.std.proofs.Common.{◌≡◌, ◌∙◌, sym, ap, List, ℕ, None}
use Rattle.timew_month.specs.Body.{step_of}
use Rattle.timew_store.specs.Held.{magic}
use Rattle.tw_journal.proofs.Offsets.{still_open}
use Rattle.tw_journal.specs.Form.{offset_in}
use Rattle.timew_store.proofs.LoadRefusals.{passed_on, body_refused, offset_refused}
use Rattle.timew_store.proofs.load.read_step.Goals as goal

pub returns-in_err-body-clause-refused : goal.returns-in_err-body-clause-refused
returns-in_err-body-clause-refused g c =
    passed_on c.from_residual.result _ _ c.from_residual.ensures.1
    (body_refused g.D.Disk.model c.args.n c.args.disk.now c.body.new.disk c.args.journal.now c.in_err-body.field-0.0 c.in_err-body.ensures.refused)

pub returns-in-Ok-clause-step : goal.returns-in-Ok-clause-step
returns-in-Ok-clause-step g c = λ bodies on. ap step_of (sym (c.in_ok-body.ensures.body magic bodies on) ∙ sym c.deref.ensures.value) ∙ c.in-Ok.ensures.value

pub returns-in_err-offset-in-Err-Malformed-clause-refused : goal.returns-in_err-offset-in-Err-Malformed-clause-refused
returns-in_err-offset-in-Err-Malformed-clause-refused g c =
    passed_on c.from_residual-in_err-offset-in-Err-Malformed.result _ _ c.from_residual-in_err-offset-in-Err-Malformed.ensures.1
    (offset_refused g.D.Disk.model c.args.n c.args.disk.now c.body.new.disk c.offset.new.disk c.args.journal.now c.in_err-offset-in-Err-Malformed.field-0.0 c.body.ensures.untouched c.in_err-offset-in-Err-Malformed.ensures.refused)

pub returns-clause-refused : goal.returns-clause-refused
returns-clause-refused g c = λ tells bodies on.
    let none : step_of c.deref.result.now ≡ None = rw c.in-Err-Malformed.field-0-is at c.in-Err-Malformed.ensures.value in (
      ap step_of (sym (c.in_ok-body.ensures.body magic bodies on) ∙ sym c.deref.ensures.value) ∙ none,
      c.in_ok-offset-in-Err-Malformed.ensures.offset magic bodies (still_open g.D.Disk.model magic c.args.journal.now c.args.disk.now c.body.new.disk bodies c.body.ensures.untouched on) ∙ ap (λ (s : List ℕ). offset_in magic s bodies c.args.n) (c.body.ensures.untouched.seen tells),
    )
