use Rattle.std.proofs.Common.{◌∙◌, length, refl, ap, subst, arith}
use Rattle.tw_groups.specs.Groups.{Groups, joined}
use Rattle.tw_groups.specs.Held.{groups_in}
use Rattle.tw_groups.specs.Cut.{first}
use Rattle.tw_path.specs.Path.{is_batch}
use Rattle.tw_sync.specs.Replies.Answers.{IsAddAnswer}
use Rattle.tw_sync.specs.Way.Sending.{IsUnsent}
use Rattle.tw_sync.proofs.CursorInChain.{may_push}
use Rattle.tw_sync.proofs.Results.{passed_on}
use Rattle.tw_sync.proofs.OneExchangeMore.{add_is_asked}
use Rattle.tw_sync.proofs.LeftIsSent.{added, some_first}
use Rattle.tw_sync.proofs.Unsent.{unsent, unadded, added_unkept}
use Rattle.tw_sync.proofs.Conflicts.{came_late}
use Rattle.tw_sync.proofs.pushing.push.Goals as goal

pub returns-in_err-batch-clause-stopped : goal.returns-in_err-batch-clause-stopped
returns-in_err-batch-clause-stopped g c =
    passed_on c.from_residual.result _ _ c.from_residual.ensures.1
    (λ state begin s. unsent g.L.Link.model c.args.client c.args.host.now state begin c.args.link.now c.args.cursor.now c.in_err-batch.field-0.0 s
    (λ none. c.requires.some (ap joined s.on_path.stands.left ∙ none))
    (subst (λ (gs : Groups). IsUnsent (first is_batch gs) c.in_err-batch.field-0.0) s.on_path.stands.left c.in_err-batch.ensures.refused))

pub returns-in_err-id-clause-stopped : goal.returns-in_err-id-clause-stopped
returns-in_err-id-clause-stopped g c =
    let k = c.in_err-id.ensures in
    let t = c.in_ok-batch.ensures in
    passed_on c.from_residual-in_err-id.result _ _ c.from_residual-in_err-id.ensures.1
    (λ state begin s. unadded g.L.Link.model c.args.client c.args.host.now state begin c.args.link.now c.ask_add.new.link c.args.cursor.now c.in_ok-batch.field-0.text.items c.in_ok-batch.field-0.ops.items c.in_err-id.field-0.0 s (record { kept = k.kept; count = k.count; refused = k.refused; heard = k.refused_heard })
    k.grows k.refused_honest (λ id. may_push state s.legs c.args.cursor.now id c.in_ok-batch.field-0.text.items c.in_ok-batch.field-0.ops.items s.on_path (λ none. c.requires.some (ap joined s.on_path.stands.left ∙ none)) (t.ops ∙ ap (first is_batch) s.on_path.stands.left) t.text t.reads_back t.within))

pub returns-in_err-add-in-Added-clause-stopped : goal.returns-in_err-add-in-Added-clause-stopped
returns-in_err-add-in-Added-clause-stopped g c =
    let k = c.in_ok-id.ensures in
    let t = c.in_ok-batch.ensures in
    passed_on c.from_residual-in_err-add-in-Added.result _ _ c.from_residual-in_err-add-in-Added.ensures.1
    (λ state begin s. added_unkept g.L.Link.model c.args.client c.args.host.now state begin c.args.link.now c.ask_add.new.link c.args.cursor.now _ c.in-Added.id c.in_ok-batch.field-0.text.items c.in-Added.wanted c.in_ok-batch.field-0.ops.items s
    (add_is_asked g.L.Link.model c.args.client c.args.host.now c.args.link.now c.ask_add.new.link k.kept k.count c.args.cursor.now.walker.at c.in_ok-batch.field-0.text.items _ _ c.in-Added.is k.heard k.welcome)
    k.grows (λ honest. subst (IsAddAnswer g.L.Link.model c.args.link.now c.ask_add.new.link c.args.cursor.now.walker.at c.in_ok-batch.field-0.text.items) c.in-Added.is (k.answer honest))
    (may_push state s.legs c.args.cursor.now c.in-Added.id c.in_ok-batch.field-0.text.items c.in_ok-batch.field-0.ops.items s.on_path (λ none. c.requires.some (ap joined s.on_path.stands.left ∙ none)) (t.ops ∙ ap (first is_batch) s.on_path.stands.left) t.text t.reads_back t.within))

pub returns-in_ok-add-in-Added-clause-pushed : goal.returns-in_ok-add-in-Added-clause-pushed
returns-in_ok-add-in-Added-clause-pushed g c = λ state begin s.
    let k = c.in_ok-id.ensures in
    let t = c.in_ok-batch.ensures in
    added g.L.Link.model c.args.client c.args.host.now state begin c.args.link.now c.ask_add.new.link c.args.cursor.now _ c.in-Added.id c.in_ok-batch.field-0.text.items c.in-Added.wanted c.in_ok-batch.field-0.ops.items s
    (add_is_asked g.L.Link.model c.args.client c.args.host.now c.args.link.now c.ask_add.new.link k.kept k.count c.args.cursor.now.walker.at c.in_ok-batch.field-0.text.items _ _ c.in-Added.is k.heard k.welcome)
    k.grows (λ honest. subst (IsAddAnswer g.L.Link.model c.args.link.now c.ask_add.new.link c.args.cursor.now.walker.at c.in_ok-batch.field-0.text.items) c.in-Added.is (k.answer honest))
    (may_push state s.legs c.args.cursor.now c.in-Added.id c.in_ok-batch.field-0.text.items c.in_ok-batch.field-0.ops.items s.on_path (λ none. c.requires.some (ap joined s.on_path.stands.left ∙ none)) (t.ops ∙ ap (first is_batch) s.on_path.stands.left) t.text t.reads_back t.within)
    c.in_ok-add-in-Added.ensures

pub returns-in_ok-add-in-Added-clause-counted : goal.returns-in_ok-add-in-Added-clause-counted
returns-in_ok-add-in-Added-clause-counted g c =
    let t = c.in_ok-add-in-Added.ensures in
    let some = some_first (groups_in c.args.cursor.now.walker.left.items) c.requires.some in
    let ops = ap length c.in_ok-batch.ensures.ops in
    let less = t.unsent in
    (t.conflicts, λ one. omega (arith, some, ops, less, one))

pub returns-in-Conflict-clause-pushed : goal.returns-in-Conflict-clause-pushed
returns-in-Conflict-clause-pushed g c = λ state begin s.
    let k = c.in_ok-id.ensures in
    came_late g.L.Link.model c.args.client c.args.host.now state begin c.args.link.now c.ask_add.new.link c.args.cursor.now _ c.in_ok-batch.field-0.text.items c.in-Conflict.latest s
    (add_is_asked g.L.Link.model c.args.client c.args.host.now c.args.link.now c.ask_add.new.link k.kept k.count c.args.cursor.now.walker.at c.in_ok-batch.field-0.text.items _ _ c.in-Conflict.is k.heard k.welcome)
    k.grows (λ honest. subst (IsAddAnswer g.L.Link.model c.args.link.now c.ask_add.new.link c.args.cursor.now.walker.at c.in_ok-batch.field-0.text.items) c.in-Conflict.is (k.answer honest))
    (record { walker = refl; versions = refl; bytes = refl; pending = refl; unsent = refl; conflicts = refl; wanted = refl })
