use Rattle.std.proofs.Common.{◌≡◌, ℕ, List, [], ◌∷◌, rules, subst}
use Rattle.tw_sync.proofs.Results.{passed_on, if_err, on_ok}
use Rattle.tw_sync.specs.Replies.Answers.{IsChildAnswer, child_heard}
use Rattle.tw_sync.specs.Replies.Heard.{HearsOne}
use Rattle.tw_audit.specs.Folding.{TakesVersion, IsNotTaken, FoldsOn}
use Rattle.tw_audit.proofs.Asking.{asks_one}
use Rattle.tw_audit.proofs.Stopping.{not_asked, not_taken, not_known, not_there, taken}
use Rattle.tw_audit.proofs.folding.go_on.Goals as goal

pub returns-in_err-id-clause-asks : goal.returns-in_err-id-clause-asks
returns-in_err-id-clause-asks g c =
    let k = c.in_err-id.ensures in
    asks_one g.L.Link.model c.args.client c.args.host.now c.args.link.now c.ask_child.new.link c.args.folded.now.at k.kept k.sends k.grows k.own

pub returns-in-Found-clause-asks : goal.returns-in-Found-clause-asks
returns-in-Found-clause-asks g c =
    let k = c.in_ok-id.ensures in
    asks_one g.L.Link.model c.args.client c.args.host.now c.args.link.now c.ask_child.new.link c.args.folded.now.at k.kept k.sends k.grows k.own

pub returns-in-UpToDate-clause-asks : goal.returns-in-UpToDate-clause-asks
returns-in-UpToDate-clause-asks g c =
    let k = c.in_ok-id.ensures in
    asks_one g.L.Link.model c.args.client c.args.host.now c.args.link.now c.ask_child.new.link c.args.folded.now.at k.kept k.sends k.grows k.own

pub returns-in-Gone-clause-asks : goal.returns-in-Gone-clause-asks
returns-in-Gone-clause-asks g c =
    let k = c.in_ok-id.ensures in
    asks_one g.L.Link.model c.args.client c.args.host.now c.args.link.now c.ask_child.new.link c.args.folded.now.at k.kept k.sends k.grows k.own

pub returns-in_err-id-clause-stopped : goal.returns-in_err-id-clause-stopped
returns-in_err-id-clause-stopped g c =
    let k = c.in_err-id.ensures in
    passed_on c.from_residual.result _ _ c.from_residual.ensures.1
    (record { why = λ way. not_asked g.L.Link.model c.args.client c.args.host.now c.args.base c.args.link.now c.ask_child.new.link c.in_err-id.field-0.0 k.refused k.refused_heard k.refused_honest })

pub returns-in-Found-clause-goes_on : goal.returns-in-Found-clause-goes_on
returns-in-Found-clause-goes_on g c =
    let k = c.in_ok-id.ensures in
    let m = g.L.Link.model in
    let a = c.args.link.now in
    let b = c.ask_child.new.link in
    let old = c.args.folded.now in
    let bytes : c.as_slice.result.now ≡ c.in-Found.segment = search rules in
    on_ok c.take.result c.take.ensures.taken (λ takes. record {
      count = takes.count;
      within = takes.within;
      exchanges = k.count;
      heard = λ tells. (child_heard c.args.client old.at _ ∷ [], k.heard tells);
      way = λ honest way. taken m c.args.client c.args.host.now c.args.base a b old (λ h. way) k.grows c.take.new.self c.in-Found.id c.in-Found.segment c.requires.before
          (λ h. subst (IsChildAnswer m a b old.at) c.in-Found.is (k.answer h))
          (subst (λ xs. TakesVersion old c.take.new.self c.in-Found.id xs) bytes takes) honest;
    })

pub returns-in-Found-clause-stopped : goal.returns-in-Found-clause-stopped
returns-in-Found-clause-stopped g c =
    let k = c.in_ok-id.ensures in
    let m = g.L.Link.model in
    let a = c.args.link.now in
    let b = c.ask_child.new.link in
    let old = c.args.folded.now in
    let bytes : c.as_slice.result.now ≡ c.in-Found.segment = search rules in
    if_err c.take.result c.take.ensures.refused (λ e not. record {
      why = λ way.
          not_taken m c.args.client c.args.host.now c.args.base a b old way k.grows c.in-Found.id c.in-Found.segment e
          (subst (λ r. HearsOne m c.args.client c.args.host.now a b (child_heard c.args.client old.at r)) c.in-Found.is k.heard)
          (λ h. subst (IsChildAnswer m a b old.at) c.in-Found.is (k.answer h))
          (subst (λ xs. IsNotTaken c.in-Found.id xs e) bytes not);
    })

pub returns-in-UpToDate-clause-stopped : goal.returns-in-UpToDate-clause-stopped
returns-in-UpToDate-clause-stopped g c =
    let k = c.in_ok-id.ensures in
    let m = g.L.Link.model in
    let a = c.args.link.now in
    let b = c.ask_child.new.link in
    let old = c.args.folded.now in
    record {
      why = λ way. not_there m c.args.client c.args.host.now c.args.base a b old way k.grows c.requires.before
          (subst (λ r. HearsOne m c.args.client c.args.host.now a b (child_heard c.args.client old.at r)) c.in-UpToDate.is k.heard)
          (λ h. subst (IsChildAnswer m a b old.at) c.in-UpToDate.is (k.answer h));
    }

pub returns-in-Gone-clause-stopped : goal.returns-in-Gone-clause-stopped
returns-in-Gone-clause-stopped g c =
    let k = c.in_ok-id.ensures in
    let m = g.L.Link.model in
    let a = c.args.link.now in
    let b = c.ask_child.new.link in
    let old = c.args.folded.now in
    record {
      why = λ way. not_known m c.args.client c.args.host.now c.args.base a b old way k.grows
          (subst (λ r. HearsOne m c.args.client c.args.host.now a b (child_heard c.args.client old.at r)) c.in-Gone.is k.heard)
          (λ h. subst (IsChildAnswer m a b old.at) c.in-Gone.is (k.answer h));
    }
