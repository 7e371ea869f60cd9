use Rattle.std.specs.Prelude.{Some, None}
use Rattle.std.proofs.Common.{◌≡◌, List, ℕ, inl, inr, refl, sym, ◌∙◌, subst}
use Rattle.tw_world.specs.Disk.{Untouched}
use Rattle.tw_world.proofs.Moments.{weaker, untouched_join}
use Rattle.tw_journal.specs.Record.{IsTail, IsLongerBy}
use Rattle.tw_journal.specs.Form.{start_in}
use Rattle.tw_journal.specs.Open.{FormIs, IsFormOf, Found, IsImageThen}
use Rattle.tw_journal.proofs.Refusals.{passed_on}
use Rattle.tw_journal.proofs.Repair.{opening, search_refused, stable_still, made_new, form_stays}
use Rattle.tw_journal.proofs.Unique.{only_faults}
use Rattle.tw_journal.proofs.journal.Journal.open.Goals as goal

pub returns-in_err-create-in-None-clause-any_moment : goal.returns-in_err-create-in-None-clause-any_moment
returns-in_err-create-in-None-clause-any_moment g c = λ tells.
    let m = g.D.Disk.model in
    let told = c.make_stable.ensures.untouched.kept.tells ∙ tells in
    let none : FormIs c.args.magic.now (m.seen c.make_stable.new.disk) None = subst (FormIs c.args.magic.now (m.seen c.make_stable.new.disk)) c.in-None.is (c.in_ok-find_form.ensures.found told) in
    opening m c.args.disk.now c.make_stable.new.disk c.find_form.new.disk c.create.new.disk c.args.magic.now (IsImageThen m c.args.disk.now c.args.magic.now) (λ f left. inl left) (λ f has. inr has.same)
    tells c.make_stable.ensures.untouched c.find_form.ensures.untouched (c.in_ok-len.ensures.settled tells) (λ told_2 settled same. c.create.ensures.any_moment told_2 settled (subst IsTail (sym same) none))

pub returns-in_ok-create-in-None-clause-any_moment : goal.returns-in_ok-create-in-None-clause-any_moment
returns-in_ok-create-in-None-clause-any_moment g c = λ tells.
    let m = g.D.Disk.model in
    let told = c.make_stable.ensures.untouched.kept.tells ∙ tells in
    let none : FormIs c.args.magic.now (m.seen c.make_stable.new.disk) None = subst (FormIs c.args.magic.now (m.seen c.make_stable.new.disk)) c.in-None.is (c.in_ok-find_form.ensures.found told) in
    opening m c.args.disk.now c.make_stable.new.disk c.find_form.new.disk c.create.new.disk c.args.magic.now (IsImageThen m c.args.disk.now c.args.magic.now) (λ f left. inl left) (λ f has. inr has.same)
    tells c.make_stable.ensures.untouched c.find_form.ensures.untouched (c.in_ok-len.ensures.settled tells) (λ told_2 settled same. c.create.ensures.any_moment told_2 settled (subst IsTail (sym same) none))

pub returns-in_err-create-in-None-clause-growth : goal.returns-in_err-create-in-None-clause-growth
returns-in_err-create-in-None-clause-growth g c = λ tells.
    let m = g.D.Disk.model in
    let told = c.make_stable.ensures.untouched.kept.tells ∙ tells in
    let none : FormIs c.args.magic.now (m.seen c.make_stable.new.disk) None = subst (FormIs c.args.magic.now (m.seen c.make_stable.new.disk)) c.in-None.is (c.in_ok-find_form.ensures.found told) in
    opening m c.args.disk.now c.make_stable.new.disk c.find_form.new.disk c.create.new.disk c.args.magic.now (IsLongerBy m c.args.disk.now 29) (λ f left. inl left) (λ f has. inr has.long)
    tells c.make_stable.ensures.untouched c.find_form.ensures.untouched (c.in_ok-len.ensures.settled tells) (λ told_2 settled same. c.create.ensures.any_moment told_2 settled (subst IsTail (sym same) none))

pub returns-in_ok-create-in-None-clause-growth : goal.returns-in_ok-create-in-None-clause-growth
returns-in_ok-create-in-None-clause-growth g c = λ tells.
    let m = g.D.Disk.model in
    let told = c.make_stable.ensures.untouched.kept.tells ∙ tells in
    let none : FormIs c.args.magic.now (m.seen c.make_stable.new.disk) None = subst (FormIs c.args.magic.now (m.seen c.make_stable.new.disk)) c.in-None.is (c.in_ok-find_form.ensures.found told) in
    opening m c.args.disk.now c.make_stable.new.disk c.find_form.new.disk c.create.new.disk c.args.magic.now (IsLongerBy m c.args.disk.now 29) (λ f left. inl left) (λ f has. inr has.long)
    tells c.make_stable.ensures.untouched c.find_form.ensures.untouched (c.in_ok-len.ensures.settled tells) (λ told_2 settled same. c.create.ensures.any_moment told_2 settled (subst IsTail (sym same) none))

pub returns-in_err-found-in-Some-clause-growth : goal.returns-in_err-found-in-Some-clause-growth
returns-in_err-found-in-Some-clause-growth g c = λ tells.
    let m = g.D.Disk.model in
    let two : Untouched m c.make_stable.new.disk c.find_records.new.disk = untouched_join m c.make_stable.new.disk c.find_form.new.disk c.find_records.new.disk c.find_form.ensures.untouched c.find_records.ensures.untouched in
    weaker m c.args.disk.now c.find_records.new.disk (m.leaves c.args.disk.now) (IsLongerBy m c.args.disk.now 29) ((untouched_join m c.args.disk.now c.make_stable.new.disk c.find_records.new.disk c.make_stable.ensures.untouched two).run tells) (λ f left. inl left)

pub returns-in_err-found-in-Some-clause-refused : goal.returns-in_err-found-in-Some-clause-refused
returns-in_err-found-in-Some-clause-refused g c =
    let m = g.D.Disk.model in
    let one : Untouched m c.args.disk.now c.find_form.new.disk = untouched_join m c.args.disk.now c.make_stable.new.disk c.find_form.new.disk c.make_stable.ensures.untouched c.find_form.ensures.untouched in
    passed_on c.from_residual-in_err-found-in-Some.result _ _ c.from_residual-in_err-found-in-Some.ensures.1
    (search_refused m c.args.disk.now c.find_form.new.disk c.find_records.new.disk c.args.magic.now c.in-Some.form.start c.in_err-found-in-Some.field-0.0 one
    (λ told.
    let told_1 = sym c.find_form.ensures.untouched.kept.tells ∙ told in
    let some : FormIs c.args.magic.now (m.seen c.make_stable.new.disk) (Some c.in-Some.form) = subst (FormIs c.args.magic.now (m.seen c.make_stable.new.disk)) c.in-Some.is (c.in_ok-find_form.ensures.found told_1) in
    subst (λ (s : List ℕ). start_in c.args.magic.now s ≡ Some c.in-Some.form.start) (sym (c.find_form.ensures.untouched.seen told_1)) some.0)
    (c.in_err-found-in-Some.ensures.refused c.args.magic.now))

pub returns-in_err-found-in-Some-clause-sound : goal.returns-in_err-found-in-Some-clause-sound
returns-in_err-found-in-Some-clause-sound g c = λ bodies tells records.
    let m = g.D.Disk.model in
    let one : Untouched m c.args.disk.now c.find_form.new.disk = untouched_join m c.args.disk.now c.make_stable.new.disk c.find_form.new.disk c.make_stable.ensures.untouched c.find_form.ensures.untouched in
    passed_on c.from_residual-in_err-found-in-Some.result _ _ c.from_residual-in_err-found-in-Some.ensures.1
    (only_faults m c.args.disk.now c.args.disk.now c.find_records.new.disk c.args.magic.now bodies c.in_err-found-in-Some.field-0.0 tells refl records
    (search_refused m c.args.disk.now c.find_form.new.disk c.find_records.new.disk c.args.magic.now c.in-Some.form.start c.in_err-found-in-Some.field-0.0 one
    (λ told.
    let told_1 = sym c.find_form.ensures.untouched.kept.tells ∙ told in
    let some : FormIs c.args.magic.now (m.seen c.make_stable.new.disk) (Some c.in-Some.form) = subst (FormIs c.args.magic.now (m.seen c.make_stable.new.disk)) c.in-Some.is (c.in_ok-find_form.ensures.found told_1) in
    subst (λ (s : List ℕ). start_in c.args.magic.now s ≡ Some c.in-Some.form.start) (sym (c.find_form.ensures.untouched.seen told_1)) some.0)
    (c.in_err-found-in-Some.ensures.refused c.args.magic.now)))

pub returns-in_err-repair-in-Some-clause-any_moment : goal.returns-in_err-repair-in-Some-clause-any_moment
returns-in_err-repair-in-Some-clause-any_moment g c = λ tells.
    let m = g.D.Disk.model in
    let told = c.make_stable.ensures.untouched.kept.tells ∙ tells in
    let two : Untouched m c.make_stable.new.disk c.find_records.new.disk = untouched_join m c.make_stable.new.disk c.find_form.new.disk c.find_records.new.disk c.find_form.ensures.untouched c.find_records.ensures.untouched in
    let some : FormIs c.args.magic.now (m.seen c.make_stable.new.disk) (Some c.in-Some.form) = subst (FormIs c.args.magic.now (m.seen c.make_stable.new.disk)) c.in-Some.is (c.in_ok-find_form.ensures.found told) in
    let told_1 = c.find_form.ensures.untouched.kept.tells ∙ told in
    let found = subst (λ (s : List ℕ). Found s c.in-Some.form.start c.in_ok-found-in-Some.found.end c.in_ok-found-in-Some.found.count c.in_ok-found-in-Some.found.offsets.items c.in_ok-found-in-Some.found.firsts.items) (sym (c.find_records.ensures.untouched.seen told_1)) (c.in_ok-found-in-Some.ensures.found told_1) in
    opening m c.args.disk.now c.make_stable.new.disk c.find_records.new.disk c.repair.new.disk c.args.magic.now (IsImageThen m c.args.disk.now c.args.magic.now) (λ f left. inl left) (λ f has. inr has.same)
    tells c.make_stable.ensures.untouched two (c.in_ok-len.ensures.settled tells)
    (λ told_2 settled same. c.repair.ensures.any_moment told_2 settled (subst (λ (s : List ℕ). IsFormOf c.args.magic.now s (Some c.in-Some.form)) (sym same) some) found)

pub returns-in_err-repair-in-Some-clause-growth : goal.returns-in_err-repair-in-Some-clause-growth
returns-in_err-repair-in-Some-clause-growth g c = λ tells.
    let m = g.D.Disk.model in
    let told = c.make_stable.ensures.untouched.kept.tells ∙ tells in
    let two : Untouched m c.make_stable.new.disk c.find_records.new.disk = untouched_join m c.make_stable.new.disk c.find_form.new.disk c.find_records.new.disk c.find_form.ensures.untouched c.find_records.ensures.untouched in
    let some : FormIs c.args.magic.now (m.seen c.make_stable.new.disk) (Some c.in-Some.form) = subst (FormIs c.args.magic.now (m.seen c.make_stable.new.disk)) c.in-Some.is (c.in_ok-find_form.ensures.found told) in
    let told_1 = c.find_form.ensures.untouched.kept.tells ∙ told in
    let found = subst (λ (s : List ℕ). Found s c.in-Some.form.start c.in_ok-found-in-Some.found.end c.in_ok-found-in-Some.found.count c.in_ok-found-in-Some.found.offsets.items c.in_ok-found-in-Some.found.firsts.items) (sym (c.find_records.ensures.untouched.seen told_1)) (c.in_ok-found-in-Some.ensures.found told_1) in
    opening m c.args.disk.now c.make_stable.new.disk c.find_records.new.disk c.repair.new.disk c.args.magic.now (IsLongerBy m c.args.disk.now 29) (λ f left. inl left) (λ f has. inr has.long)
    tells c.make_stable.ensures.untouched two (c.in_ok-len.ensures.settled tells)
    (λ told_2 settled same. c.repair.ensures.any_moment told_2 settled (subst (λ (s : List ℕ). IsFormOf c.args.magic.now s (Some c.in-Some.form)) (sym same) some) found)

pub returns-in_ok-repair-in-Some-clause-any_moment : goal.returns-in_ok-repair-in-Some-clause-any_moment
returns-in_ok-repair-in-Some-clause-any_moment g c = λ tells.
    let m = g.D.Disk.model in
    let told = c.make_stable.ensures.untouched.kept.tells ∙ tells in
    let two : Untouched m c.make_stable.new.disk c.find_records.new.disk = untouched_join m c.make_stable.new.disk c.find_form.new.disk c.find_records.new.disk c.find_form.ensures.untouched c.find_records.ensures.untouched in
    let some : FormIs c.args.magic.now (m.seen c.make_stable.new.disk) (Some c.in-Some.form) = subst (FormIs c.args.magic.now (m.seen c.make_stable.new.disk)) c.in-Some.is (c.in_ok-find_form.ensures.found told) in
    let told_1 = c.find_form.ensures.untouched.kept.tells ∙ told in
    let found = subst (λ (s : List ℕ). Found s c.in-Some.form.start c.in_ok-found-in-Some.found.end c.in_ok-found-in-Some.found.count c.in_ok-found-in-Some.found.offsets.items c.in_ok-found-in-Some.found.firsts.items) (sym (c.find_records.ensures.untouched.seen told_1)) (c.in_ok-found-in-Some.ensures.found told_1) in
    opening m c.args.disk.now c.make_stable.new.disk c.find_records.new.disk c.repair.new.disk c.args.magic.now (IsImageThen m c.args.disk.now c.args.magic.now) (λ f left. inl left) (λ f has. inr has.same)
    tells c.make_stable.ensures.untouched two (c.in_ok-len.ensures.settled tells)
    (λ told_2 settled same. c.repair.ensures.any_moment told_2 settled (subst (λ (s : List ℕ). IsFormOf c.args.magic.now s (Some c.in-Some.form)) (sym same) some) found)

pub returns-in_ok-repair-in-Some-clause-growth : goal.returns-in_ok-repair-in-Some-clause-growth
returns-in_ok-repair-in-Some-clause-growth g c = λ tells.
    let m = g.D.Disk.model in
    let told = c.make_stable.ensures.untouched.kept.tells ∙ tells in
    let two : Untouched m c.make_stable.new.disk c.find_records.new.disk = untouched_join m c.make_stable.new.disk c.find_form.new.disk c.find_records.new.disk c.find_form.ensures.untouched c.find_records.ensures.untouched in
    let some : FormIs c.args.magic.now (m.seen c.make_stable.new.disk) (Some c.in-Some.form) = subst (FormIs c.args.magic.now (m.seen c.make_stable.new.disk)) c.in-Some.is (c.in_ok-find_form.ensures.found told) in
    let told_1 = c.find_form.ensures.untouched.kept.tells ∙ told in
    let found = subst (λ (s : List ℕ). Found s c.in-Some.form.start c.in_ok-found-in-Some.found.end c.in_ok-found-in-Some.found.count c.in_ok-found-in-Some.found.offsets.items c.in_ok-found-in-Some.found.firsts.items) (sym (c.find_records.ensures.untouched.seen told_1)) (c.in_ok-found-in-Some.ensures.found told_1) in
    opening m c.args.disk.now c.make_stable.new.disk c.find_records.new.disk c.repair.new.disk c.args.magic.now (IsLongerBy m c.args.disk.now 29) (λ f left. inl left) (λ f has. inr has.long)
    tells c.make_stable.ensures.untouched two (c.in_ok-len.ensures.settled tells)
    (λ told_2 settled same. c.repair.ensures.any_moment told_2 settled (subst (λ (s : List ℕ). IsFormOf c.args.magic.now s (Some c.in-Some.form)) (sym same) some) found)

pub returns-in_ok-create-in-None-clause-made : goal.returns-in_ok-create-in-None-clause-made
returns-in_ok-create-in-None-clause-made g c = λ tells.
    let m = g.D.Disk.model in
    let told = c.make_stable.ensures.untouched.kept.tells ∙ tells in
    let reads = c.find_form.ensures.untouched in
    let none : FormIs c.args.magic.now (m.seen c.make_stable.new.disk) None = subst (FormIs c.args.magic.now (m.seen c.make_stable.new.disk)) c.in-None.is (c.in_ok-find_form.ensures.found told) in
    made_new c.args.magic.now (m.seen c.args.disk.now) (m.seen c.make_stable.new.disk) (m.seen c.create.new.disk) (c.make_stable.ensures.untouched.seen tells) none
    (c.in_ok-create-in-None.ensures.made (reads.kept.tells ∙ told) (stable_still m c.make_stable.new.disk c.find_form.new.disk told reads (c.in_ok-len.ensures.settled tells)) (subst IsTail (sym (reads.seen told)) none))

pub returns-in_ok-repair-in-Some-clause-made : goal.returns-in_ok-repair-in-Some-clause-made
returns-in_ok-repair-in-Some-clause-made g c = λ tells.
    let m = g.D.Disk.model in
    let told = c.make_stable.ensures.untouched.kept.tells ∙ tells in
    let two : Untouched m c.make_stable.new.disk c.find_records.new.disk = untouched_join m c.make_stable.new.disk c.find_form.new.disk c.find_records.new.disk c.find_form.ensures.untouched c.find_records.ensures.untouched in
    let same = two.seen told in
    let some : FormIs c.args.magic.now (m.seen c.make_stable.new.disk) (Some c.in-Some.form) = subst (FormIs c.args.magic.now (m.seen c.make_stable.new.disk)) c.in-Some.is (c.in_ok-find_form.ensures.found told) in
    let told_1 = c.find_form.ensures.untouched.kept.tells ∙ told in
    let found = subst (λ (s : List ℕ). Found s c.in-Some.form.start c.in_ok-found-in-Some.found.end c.in_ok-found-in-Some.found.count c.in_ok-found-in-Some.found.offsets.items c.in_ok-found-in-Some.found.firsts.items) (sym (c.find_records.ensures.untouched.seen told_1)) (c.in_ok-found-in-Some.ensures.found told_1) in
    let form : start_in c.args.magic.now (m.seen c.find_records.new.disk) ≡ Some c.in-Some.form.start = subst (λ (s : List ℕ). start_in c.args.magic.now s ≡ Some c.in-Some.form.start) (sym same) some.0 in
    form_stays c.args.magic.now (m.seen c.args.disk.now) (m.seen c.find_records.new.disk) (m.seen c.repair.new.disk) c.in-Some.form.start (same ∙ c.make_stable.ensures.untouched.seen tells) form
    (c.in_ok-repair-in-Some.ensures.same (two.kept.tells ∙ told) (stable_still m c.make_stable.new.disk c.find_records.new.disk told two (c.in_ok-len.ensures.settled tells)) (subst (λ (s : List ℕ). IsFormOf c.args.magic.now s (Some c.in-Some.form)) (sym same) some) found)
