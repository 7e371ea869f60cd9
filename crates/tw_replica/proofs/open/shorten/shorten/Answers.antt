use Rattle.std.proofs.Common.{◌≡◌, ◌+◌, ◌^◌, ◌≤◌, ◌∷◌, [], List, ℕ, ap, arith, length, subst, sym, ◌∙◌}
use Rattle.std.proofs.lemmas.Bool.{le-leb, lt-leb}
use Rattle.tw_journal.specs.Journal.{IsOpenOn, RecordsOrOne}
use Rattle.tw_world.specs.Disk.{LeavesOnly}
use Rattle.tw_state.specs.State.{Stands}
use Rattle.tw_state.specs.Core.{state_of}
use Rattle.tw_replica.specs.Replica.{magic}
use Rattle.tw_replica.specs.Opening.{state_body, shortened_bodies}
use Rattle.tw_replica.proofs.Shortening.{in_rows, too_few, too_long, now_due, still_stands, opens_still, opens_either, grows_still, grows_once, disk_failed}
use Rattle.tw_replica.proofs.open.shorten.shorten.Goals as goal

-- the records stay where none is put in their place
pub returns-then-not-can_checkpoint-clause-any_moment : goal.returns-then-not-can_checkpoint-clause-any_moment
returns-then-not-can_checkpoint-clause-any_moment g c = λ bodies on stands. opens_still g.D.Disk.model g.met.D.Disk.only_now c.args.journal.now c.args.disk.now bodies (state_of c.args.core.now) on stands

pub returns-then-not-can_checkpoint-clause-records : goal.returns-then-not-can_checkpoint-clause-records
returns-then-not-can_checkpoint-clause-records g c = λ bodies on.
    subst (IsOpenOn g.D.Disk.model magic c.args.journal.now c.args.disk.now) (sym (in_rows _ (state_of c.args.core.now) bodies (sym c.can_checkpoint.ensures.journal ∙ c.if-not-can_checkpoint.true))) on

pub returns-then-not-can_checkpoint-clause-stands : goal.returns-then-not-can_checkpoint-clause-stands
returns-then-not-can_checkpoint-clause-stands g c = λ bodies on stands.
    subst (λ (l : List (List ℕ)). Stands l (state_of c.args.core.now)) (sym (in_rows _ (state_of c.args.core.now) bodies (sym c.can_checkpoint.ensures.journal ∙ c.if-not-can_checkpoint.true))) stands

pub returns-then-count-lt-MANY-clause-records : goal.returns-then-count-lt-MANY-clause-records
returns-then-count-lt-MANY-clause-records g c = λ bodies on.
    subst (IsOpenOn g.D.Disk.model magic c.args.journal.now c.args.disk.now) (sym (too_few _ (state_of c.args.core.now) bodies (lt-leb _ _ (omega (arith, on.count, c.if-count-lt-MANY.true))))) on

pub returns-then-count-lt-MANY-clause-stands : goal.returns-then-count-lt-MANY-clause-stands
returns-then-count-lt-MANY-clause-stands g c = λ bodies on stands.
    subst (λ (l : List (List ℕ)). Stands l (state_of c.args.core.now)) (sym (too_few _ (state_of c.args.core.now) bodies (lt-leb _ _ (omega (arith, on.count, c.if-count-lt-MANY.true))))) stands

pub returns-then-len-gt-MAX_RECORD-clause-records : goal.returns-then-len-gt-MAX_RECORD-clause-records
returns-then-len-gt-MAX_RECORD-clause-records g c = λ bodies on.
    subst (IsOpenOn g.D.Disk.model magic c.args.journal.now c.args.disk.now) (sym (too_long _ (state_of c.args.core.now) bodies (lt-leb _ _ (omega (arith, c.if-len-gt-MAX_RECORD.true, ap length c.in_ok-body.ensures.body))))) on

pub returns-then-len-gt-MAX_RECORD-clause-stands : goal.returns-then-len-gt-MAX_RECORD-clause-stands
returns-then-len-gt-MAX_RECORD-clause-stands g c = λ bodies on stands.
    subst (λ (l : List (List ℕ)). Stands l (state_of c.args.core.now)) (sym (too_long _ (state_of c.args.core.now) bodies (lt-leb _ _ (omega (arith, c.if-len-gt-MAX_RECORD.true, ap length c.in_ok-body.ensures.body))))) stands

pub returns-then-count-lt-MANY-clause-any_moment : goal.returns-then-count-lt-MANY-clause-any_moment
returns-then-count-lt-MANY-clause-any_moment g c = λ bodies on stands. opens_still g.D.Disk.model g.met.D.Disk.only_now c.args.journal.now c.args.disk.now bodies (state_of c.args.core.now) on stands

pub returns-in_err-body-clause-any_moment : goal.returns-in_err-body-clause-any_moment
returns-in_err-body-clause-any_moment g c = λ bodies on stands. opens_still g.D.Disk.model g.met.D.Disk.only_now c.args.journal.now c.args.disk.now bodies (state_of c.args.core.now) on stands

pub returns-then-len-gt-MAX_RECORD-clause-any_moment : goal.returns-then-len-gt-MAX_RECORD-clause-any_moment
returns-then-len-gt-MAX_RECORD-clause-any_moment g c = λ bodies on stands. opens_still g.D.Disk.model g.met.D.Disk.only_now c.args.journal.now c.args.disk.now bodies (state_of c.args.core.now) on stands

pub returns-then-not-can_checkpoint-clause-growth : goal.returns-then-not-can_checkpoint-clause-growth
returns-then-not-can_checkpoint-clause-growth g c = λ bodies on most le. grows_still g.D.Disk.model g.met.D.Disk.only_now c.args.disk.now (most + (2 ^ 30 + 2))

pub returns-then-count-lt-MANY-clause-growth : goal.returns-then-count-lt-MANY-clause-growth
returns-then-count-lt-MANY-clause-growth g c = λ bodies on most le. grows_still g.D.Disk.model g.met.D.Disk.only_now c.args.disk.now (most + (2 ^ 30 + 2))

pub returns-in_err-body-clause-growth : goal.returns-in_err-body-clause-growth
returns-in_err-body-clause-growth g c = λ bodies on most le. grows_still g.D.Disk.model g.met.D.Disk.only_now c.args.disk.now (most + (2 ^ 30 + 2))

pub returns-then-len-gt-MAX_RECORD-clause-growth : goal.returns-then-len-gt-MAX_RECORD-clause-growth
returns-then-len-gt-MAX_RECORD-clause-growth g c = λ bodies on most le. grows_still g.D.Disk.model g.met.D.Disk.only_now c.args.disk.now (most + (2 ^ 30 + 2))

pub returns-in-Ok-clause-any_moment : goal.returns-in-Ok-clause-any_moment
returns-in-Ok-clause-any_moment g c = λ bodies on stands.
    let m = g.D.Disk.model in
    let body : c.deref.result.now ≡ state_body (state_of c.args.core.now) = c.deref.ensures.value ∙ c.in_ok-body.ensures.body in
    let le : length (state_body (state_of c.args.core.now)) + 5 ≤ 2 ^ 30 = omega (arith, c.if-len-gt-MAX_RECORD.false, ap length c.in_ok-body.ensures.body) in
    opens_either m c.args.disk.now c.checkpoint.new.disk bodies (state_of c.args.core.now) stands c.in_ok-body.ensures.is le
    (subst (λ (b : List ℕ). LeavesOnly m c.args.disk.now c.checkpoint.new.disk (RecordsOrOne magic bodies b)) body (c.checkpoint.ensures.any_moment magic bodies on))

pub returns-in-Ok-clause-growth : goal.returns-in-Ok-clause-growth
returns-in-Ok-clause-growth g c = λ bodies on most le.
    grows_once g.D.Disk.model c.args.disk.now c.checkpoint.new.disk (length c.deref.result.now + 7) most (2 ^ 30 + 2) (le (omega (arith, on.count, c.if-count-lt-MANY.false))) (omega (arith, c.if-len-gt-MAX_RECORD.false, ap length c.deref.ensures.value)) (c.checkpoint.ensures.growth magic bodies on)

pub returns-clause-any_moment : goal.returns-clause-any_moment
returns-clause-any_moment g c = λ bodies on stands.
    let m = g.D.Disk.model in
    let body : c.deref.result.now ≡ state_body (state_of c.args.core.now) = c.deref.ensures.value ∙ c.in_ok-body.ensures.body in
    let le : length (state_body (state_of c.args.core.now)) + 5 ≤ 2 ^ 30 = omega (arith, c.if-len-gt-MAX_RECORD.false, ap length c.in_ok-body.ensures.body) in
    opens_either m c.args.disk.now c.checkpoint.new.disk bodies (state_of c.args.core.now) stands c.in_ok-body.ensures.is le
    (subst (λ (b : List ℕ). LeavesOnly m c.args.disk.now c.checkpoint.new.disk (RecordsOrOne magic bodies b)) body (c.checkpoint.ensures.any_moment magic bodies on))

pub returns-clause-growth : goal.returns-clause-growth
returns-clause-growth g c = λ bodies on most le.
    grows_once g.D.Disk.model c.args.disk.now c.checkpoint.new.disk (length c.deref.result.now + 7) most (2 ^ 30 + 2) (le (omega (arith, on.count, c.if-count-lt-MANY.false))) (omega (arith, c.if-len-gt-MAX_RECORD.false, ap length c.deref.ensures.value)) (c.checkpoint.ensures.growth magic bodies on)

pub returns-in-Ok-clause-records : goal.returns-in-Ok-clause-records
returns-in-Ok-clause-records g c = λ bodies on.
    let m = g.D.Disk.model in
    let state = state_of c.args.core.now in
    let body : c.deref.result.now ≡ state_body state = c.deref.ensures.value ∙ c.in_ok-body.ensures.body in
    let due : shortened_bodies _ state bodies ≡ state_body state ∷ [] =
    now_due _ state bodies (sym c.can_checkpoint.ensures.journal ∙ c.if-not-can_checkpoint.false) (le-leb _ _ (omega (arith, on.count, c.if-count-lt-MANY.false))) (le-leb _ _ (omega (arith, c.if-len-gt-MAX_RECORD.false, ap length c.in_ok-body.ensures.body))) in
    subst (IsOpenOn m magic c.checkpoint.new.self c.checkpoint.new.disk) (ap (λ (b : List ℕ). b ∷ []) body ∙ sym due) (c.in-Ok.ensures.replaced magic bodies on)

pub returns-in-Ok-clause-stands : goal.returns-in-Ok-clause-stands
returns-in-Ok-clause-stands g c = λ bodies on stands. still_stands _ (state_of c.args.core.now) bodies stands c.in_ok-body.ensures.is

pub returns-clause-refused : goal.returns-clause-refused
returns-clause-refused g c = disk_failed g.D.Disk.model c.args.journal.now c.checkpoint.new.self c.args.disk.now c.checkpoint.new.disk (length c.deref.result.now + 5) c.in-Err.field-0 c.requires.open_now (omega (arith, c.if-len-gt-MAX_RECORD.false, ap length c.deref.ensures.value)) c.in-Err.ensures.refused
