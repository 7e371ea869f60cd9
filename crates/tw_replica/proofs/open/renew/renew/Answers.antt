use Rattle.std.proofs.Common.{◌≡◌, ◌+◌, ◌^◌, ◌≤◌, [], if◌then◌else◌, true, List, ℕ, length, refl, sym, ap, subst, ◌∙◌, arith}
use Rattle.std.proofs.lemmas.Result.{err_from_is_err_and}
use Rattle.tw_world.specs.Disk.{LeavesOnly}
use Rattle.tw_journal.specs.Upgrade.{upgraded, RecordsOrThose}
use Rattle.tw_journal.specs.Journal.{IsOpenOn, can_checkpoint, journal_version}
use Rattle.tw_journal.proofs.Offsets.{open_records}
use Rattle.tw_bodies.specs.Body.{IsStep}
use Rattle.tw_state.specs.State.{Stands, checkpoint}
use Rattle.tw_state.specs.Core.{state_of}
use Rattle.tw_replica.specs.Replica.{magic}
use Rattle.tw_replica.specs.Opening.{state_body, renewed, is_on_old_row}
use Rattle.tw_replica.proofs.Shortening.{grows_once}
use Rattle.tw_replica.proofs.Renewing.{only_second, not_renewed, stays, row_has_no_areas, body_of_row, renewed_is, renewed_stands, opens_renewed}
use Rattle.tw_replica.proofs.open.renew.renew.Goals as goal

pub returns-in_err-body-clause-refused : goal.returns-in_err-body-clause-refused
returns-in_err-body-clause-refused g c =
    let p = err_from_is_err_and c.from_residual.result c.from_residual.ensures.1 in
    rw (p.1, p.2) (λ bodies on. open_records g.D.Disk.model magic c.args.journal.now c.args.disk.now bodies on)

pub returns-then-version-ne-FIRST-clause-replaced : goal.returns-then-version-ne-FIRST-clause-replaced
returns-then-version-ne-FIRST-clause-replaced g c =
    let m = g.D.Disk.model in
    let journal = c.args.journal.now in
    let state = state_of c.args.core.now in
    let other : journal_version journal ≡ 49 → ⊥ = λ e. absurd (omega (arith, e, c.version.ensures, c.if-version-ne-FIRST.true)) in
    let kept = not_renewed journal other in
    record {
      records = λ bodies on. subst (IsOpenOn m magic journal c.args.disk.now) (sym (stays journal state bodies kept)) on;
      stands = λ bodies on stands. subst (λ (l : List (List ℕ)). Stands l state) (sym (stays journal state bodies kept)) stands;
      length = c.requires.length;
      live = c.requires.open_now;
      version = λ bodies on. only_second m journal c.args.disk.now bodies on other;
    }

pub returns-in-Ok-clause-replaced : goal.returns-in-Ok-clause-replaced
returns-in-Ok-clause-replaced g c =
    let m = g.D.Disk.model in
    let journal = c.args.journal.now in
    let state = state_of c.args.core.now in
    let first : journal_version journal ≡ 49 = omega (arith, c.version.ensures, c.if-version-ne-FIRST.false) in
    let body : c.deref.result.now ≡ (if can_checkpoint journal then [] else state_body state) = c.deref.ensures.value ∙ c.in_ok-body.ensures.body in
    let fits : is_on_old_row journal ≡ true → IsStep (checkpoint state) × (length (state_body state) + 5 ≤ 2 ^ 30) = λ old.
    let row = row_has_no_areas journal old in (c.in_ok-body.ensures.is row, omega (arith, c.len-size.ensures, c.if-size-gt-MAX_RECORD.false, ap length (c.in_ok-body.ensures.body ∙ body_of_row journal state row))) in
    record {
      records = λ bodies on. subst (IsOpenOn m magic c.upgrade.new.self c.upgrade.new.disk) (ap (upgraded journal bodies) body ∙ renewed_is journal state bodies first) (c.in-Ok.ensures.upgraded bodies on);
      stands = λ bodies on stands. renewed_stands journal state bodies stands fits;
      length = c.upgrade.ensures.length c.in-Ok.ensures.accepted.2;
      live = c.in-Ok.ensures.accepted.2;
      version = λ bodies on. c.in-Ok.ensures.accepted.0;
    }

pub returns-in-Ok-clause-any_moment : goal.returns-in-Ok-clause-any_moment
returns-in-Ok-clause-any_moment g c = λ bodies on stands.
    let m = g.D.Disk.model in
    let journal = c.args.journal.now in
    let state = state_of c.args.core.now in
    let first : journal_version journal ≡ 49 = omega (arith, c.version.ensures, c.if-version-ne-FIRST.false) in
    let body : c.deref.result.now ≡ (if can_checkpoint journal then [] else state_body state) = c.deref.ensures.value ∙ c.in_ok-body.ensures.body in
    let fits : is_on_old_row journal ≡ true → IsStep (checkpoint state) × (length (state_body state) + 5 ≤ 2 ^ 30) = λ old.
    let row = row_has_no_areas journal old in (c.in_ok-body.ensures.is row, omega (arith, c.len-size.ensures, c.if-size-gt-MAX_RECORD.false, ap length (c.in_ok-body.ensures.body ∙ body_of_row journal state row))) in
    opens_renewed m c.args.disk.now c.upgrade.new.disk bodies (renewed journal state bodies) state stands (renewed_stands journal state bodies stands fits)
    (subst (λ (l : List (List ℕ)). LeavesOnly m c.args.disk.now c.upgrade.new.disk (RecordsOrThose magic bodies l)) (ap (upgraded journal bodies) body ∙ renewed_is journal state bodies first) (c.upgrade.ensures.any_moment bodies on))

pub returns-clause-any_moment : goal.returns-clause-any_moment
returns-clause-any_moment g c = λ bodies on stands.
    let m = g.D.Disk.model in
    let journal = c.args.journal.now in
    let state = state_of c.args.core.now in
    let first : journal_version journal ≡ 49 = omega (arith, c.version.ensures, c.if-version-ne-FIRST.false) in
    let body : c.deref.result.now ≡ (if can_checkpoint journal then [] else state_body state) = c.deref.ensures.value ∙ c.in_ok-body.ensures.body in
    let fits : is_on_old_row journal ≡ true → IsStep (checkpoint state) × (length (state_body state) + 5 ≤ 2 ^ 30) = λ old.
    let row = row_has_no_areas journal old in (c.in_ok-body.ensures.is row, omega (arith, c.len-size.ensures, c.if-size-gt-MAX_RECORD.false, ap length (c.in_ok-body.ensures.body ∙ body_of_row journal state row))) in
    opens_renewed m c.args.disk.now c.upgrade.new.disk bodies (renewed journal state bodies) state stands (renewed_stands journal state bodies stands fits)
    (subst (λ (l : List (List ℕ)). LeavesOnly m c.args.disk.now c.upgrade.new.disk (RecordsOrThose magic bodies l)) (ap (upgraded journal bodies) body ∙ renewed_is journal state bodies first) (c.upgrade.ensures.any_moment bodies on))

pub returns-in-Ok-clause-growth : goal.returns-in-Ok-clause-growth
returns-in-Ok-clause-growth g c = λ bodies on most le.
    let first : journal_version c.args.journal.now ≡ 49 = omega (arith, c.version.ensures, c.if-version-ne-FIRST.false) in
    grows_once g.D.Disk.model c.args.disk.now c.upgrade.new.disk (length c.deref.result.now + 29) most (2 ^ 30 + 24) (le first) (omega (arith, c.len-size.ensures, c.if-size-gt-MAX_RECORD.false, ap length c.deref.ensures.value)) (c.upgrade.ensures.growth bodies on)

pub returns-clause-growth : goal.returns-clause-growth
returns-clause-growth g c = λ bodies on most le.
    let first : journal_version c.args.journal.now ≡ 49 = omega (arith, c.version.ensures, c.if-version-ne-FIRST.false) in
    grows_once g.D.Disk.model c.args.disk.now c.upgrade.new.disk (length c.deref.result.now + 29) most (2 ^ 30 + 24) (le first) (omega (arith, c.len-size.ensures, c.if-size-gt-MAX_RECORD.false, ap length c.deref.ensures.value)) (c.upgrade.ensures.growth bodies on)
