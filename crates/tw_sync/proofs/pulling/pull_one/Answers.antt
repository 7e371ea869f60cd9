use Rattle.std.proofs.Common.{◌≡◌, List, ℕ, arith, rules, subst, sym}
use Rattle.tw_model.specs.Ops.{TasksValue}
use Rattle.tw_sync.proofs.Results.{passed_on}
use Rattle.tw_sync.specs.Way.Cursor.{TakesVersion, IsNotTaken}
use Rattle.tw_sync.specs.Way.Progress.{ends_late}
use Rattle.tw_path.proofs.Reading.{segment_some}
use Rattle.tw_sync.proofs.OneExchangeMore.{child_is_asked, child_says_truly, pulling_on, pulled_up}
use Rattle.tw_sync.proofs.PullRefused.{pulling_unasked, pulling_gone, pulling_untaken}
use Rattle.tw_sync.proofs.Conflicts.{late_alone}
use Rattle.tw_sync.proofs.pulling.pull_one.Goals as goal

pub returns-in_err-id-clause-stopped : goal.returns-in_err-id-clause-stopped
returns-in_err-id-clause-stopped g c =
    let k = c.in_err-id.ensures in
    passed_on c.from_residual.result _ _ c.from_residual.ensures.1
    (λ state first hand s. pulling_unasked g.L.Link.model c.args.client c.args.host.now state first c.args.link.now c.ask_child.new.link c.args.cursor.now (λ hs. Unit {0}) c.in_err-id.field-0.0 s (record { kept = k.kept; count = k.count; refused = k.refused; heard = k.refused_heard }) k.grows k.own k.refused_honest)

pub returns-in_err-take_version-in-Found-clause-stopped : goal.returns-in_err-take_version-in-Found-clause-stopped
returns-in_err-take_version-in-Found-clause-stopped g c =
    let k = c.in_ok-id.ensures in
    let bytes : c.as_slice.result.now ≡ c.in-Found.segment = search rules in
    passed_on c.from_residual-in_err-take_version-in-Found.result _ _ c.from_residual-in_err-take_version-in-Found.ensures.1
    (λ state first hand s. pulling_untaken g.L.Link.model c.args.client c.args.host.now state first c.args.link.now c.ask_child.new.link c.args.cursor.now c.take_version.new.self (λ hs. Unit {0}) c.in-Found.id c.in-Found.segment c.in_err-take_version-in-Found.field-0.0 s
    (child_is_asked g.L.Link.model c.args.client c.args.host.now c.args.link.now c.ask_child.new.link k.kept k.count c.args.cursor.now.walker.at _ _ c.in-Found.is k.heard k.welcome)
    (λ honest. child_says_truly g.L.Link.model c.args.client c.args.link.now c.ask_child.new.link c.args.cursor.now.walker.at _ _ c.in-Found.is (k.grows honest) (k.own honest) (k.answer honest))
    (subst (λ xs. IsNotTaken c.args.cursor.now c.in-Found.id xs c.in_err-take_version-in-Found.field-0.0) bytes c.in_err-take_version-in-Found.ensures.refused) c.in_err-take_version-in-Found.ensures.kept)

pub returns-in_ok-take_version-in-Found-clause-goes_on : goal.returns-in_ok-take_version-in-Found-clause-goes_on
returns-in_ok-take_version-in-Found-clause-goes_on g c = λ state first hand s.
    let k = c.in_ok-id.ensures in
    let bytes : c.as_slice.result.now ≡ c.in-Found.segment = search rules in
    pulling_on g.L.Link.model c.args.client c.args.host.now state first c.args.link.now c.ask_child.new.link c.args.cursor.now c.take_version.new.self (λ hs. ends_late hs ≡ 0) c.in-Found.id c.in-Found.segment s
    (child_is_asked g.L.Link.model c.args.client c.args.host.now c.args.link.now c.ask_child.new.link k.kept k.count c.args.cursor.now.walker.at _ _ c.in-Found.is k.heard k.welcome)
    (λ honest. child_says_truly g.L.Link.model c.args.client c.args.link.now c.ask_child.new.link c.args.cursor.now.walker.at _ _ c.in-Found.is (k.grows honest) (k.own honest) (k.answer honest))
    (subst (λ (t : TasksValue). TakesVersion t c.args.cursor.now c.take_version.new.self c.in-Found.id c.in-Found.segment) (sym hand)
    (subst (λ (xs : List ℕ). TakesVersion c.args.hand.now c.args.cursor.now c.take_version.new.self c.in-Found.id xs) bytes c.in_ok-take_version-in-Found.ensures.taken))

pub returns-in_ok-take_version-in-Found-clause-found : goal.returns-in_ok-take_version-in-Found-clause-found
returns-in_ok-take_version-in-Found-clause-found g c = λ more state first hand s.
    let k = c.in_ok-id.ensures in
    let bytes : c.as_slice.result.now ≡ c.in-Found.segment = search rules in
    pulling_on g.L.Link.model c.args.client c.args.host.now state first c.args.link.now c.ask_child.new.link c.args.cursor.now c.take_version.new.self (λ hs. Unit {0}) c.in-Found.id c.in-Found.segment s
    (child_is_asked g.L.Link.model c.args.client c.args.host.now c.args.link.now c.ask_child.new.link k.kept k.count c.args.cursor.now.walker.at _ _ c.in-Found.is k.heard k.welcome)
    (λ honest. child_says_truly g.L.Link.model c.args.client c.args.link.now c.ask_child.new.link c.args.cursor.now.walker.at _ _ c.in-Found.is (k.grows honest) (k.own honest) (k.answer honest))
    (subst (λ (t : TasksValue). TakesVersion t c.args.cursor.now c.take_version.new.self c.in-Found.id c.in-Found.segment) (sym hand)
    (subst (λ (xs : List ℕ). TakesVersion c.args.hand.now c.args.cursor.now c.take_version.new.self c.in-Found.id xs) bytes c.in_ok-take_version-in-Found.ensures.taken))

pub returns-in_ok-take_version-in-Found-clause-farther : goal.returns-in_ok-take_version-in-Found-clause-farther
returns-in_ok-take_version-in-Found-clause-farther g c = λ more.
    let t = c.in_ok-take_version-in-Found.ensures.taken in
    let some = segment_some c.as_slice.result.now t.ops t.reads in
    let e = t.bytes in
    omega (arith, some, e)

pub returns-in-UpToDate-clause-goes_on : goal.returns-in-UpToDate-clause-goes_on
returns-in-UpToDate-clause-goes_on g c = λ state first hand s.
    let k = c.in_ok-id.ensures in
    pulled_up g.L.Link.model c.args.client c.args.host.now state first c.args.link.now c.ask_child.new.link c.args.cursor.now s
    (child_is_asked g.L.Link.model c.args.client c.args.host.now c.args.link.now c.ask_child.new.link k.kept k.count c.args.cursor.now.walker.at _ _ c.in-UpToDate.is k.heard k.welcome)
    (λ honest. child_says_truly g.L.Link.model c.args.client c.args.link.now c.ask_child.new.link c.args.cursor.now.walker.at _ _ c.in-UpToDate.is (k.grows honest) (k.own honest) (k.answer honest))

pub returns-in-UpToDate-clause-late : goal.returns-in-UpToDate-clause-late
returns-in-UpToDate-clause-late g c = λ none tries state first last s.
    let k = c.in_ok-id.ensures in
    late_alone g.L.Link.model c.args.client c.args.host.now state first c.args.link.now c.ask_child.new.link c.args.cursor.now last s tries
    (child_is_asked g.L.Link.model c.args.client c.args.host.now c.args.link.now c.ask_child.new.link k.kept k.count c.args.cursor.now.walker.at _ _ c.in-UpToDate.is k.heard k.welcome)
    (λ honest. child_says_truly g.L.Link.model c.args.client c.args.link.now c.ask_child.new.link c.args.cursor.now.walker.at _ _ c.in-UpToDate.is (k.grows honest) (k.own honest) (k.answer honest))

pub returns-in-Gone-clause-stopped : goal.returns-in-Gone-clause-stopped
returns-in-Gone-clause-stopped g c = λ state first hand s.
    let k = c.in_ok-id.ensures in
    pulling_gone g.L.Link.model c.args.client c.args.host.now state first c.args.link.now c.ask_child.new.link c.args.cursor.now (λ hs. Unit {0}) s
    (child_is_asked g.L.Link.model c.args.client c.args.host.now c.args.link.now c.ask_child.new.link k.kept k.count c.args.cursor.now.walker.at _ _ c.in-Gone.is k.heard k.welcome)
    (λ honest. child_says_truly g.L.Link.model c.args.client c.args.link.now c.ask_child.new.link c.args.cursor.now.walker.at _ _ c.in-Gone.is (k.grows honest) (k.own honest) (k.answer honest))
