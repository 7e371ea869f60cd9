use Rattle.std.proofs.Common.{◌≡◌, ◌∙◌, OnOk, refl, sym, subst}
use Rattle.std.specs.Result.{IfErr}
use Rattle.tw_http.specs.declared.link.LinkError.TheVariants.{Failed, Memory}
use Rattle.tw_server.specs.Memory.Holding.{Acts, IsReply, MayAct}
use Rattle.tw_server.specs.Memory.Server.{holding_of}
use Rattle.tw_server.specs.Memory.Link.{before_request}
use Rattle.tw_server.proofs.MemoryExchange.{some_others, all_others, delivered, may_have_acted, acted_unheard}
use Rattle.tw_server.proofs.Results.{on_err_there, on_ok_there}
use Rattle.tw_server.proofs.MemoryAlone.{keeps_some, keeps_all, keeps_acted, keeps_maybe, keeps_delivered}
use Rattle.tw_server.proofs.memory.link.MemoryLinkLink.exchange.Goals as goal

pub returns-then-is_err-clause-answered : goal.returns-then-is_err-clause-answered
returns-then-is_err-clause-answered c = some_others c.args.self.now _ refl c.args.request.now _ Memory (on_err_there c.add_step.result _ (sym c.is_err.ensures.value ∙ c.if-is_err.true) c.add_step.ensures.part)

pub returns-in-LoseRequest-clause-answered : goal.returns-in-LoseRequest-clause-answered
returns-in-LoseRequest-clause-answered c = all_others c.args.self.now _ refl c.args.request.now _ Failed (on_ok_there c.add_step.result _ (sym c.is_err.ensures.value ∙ c.if-is_err.false) c.add_step.ensures.added)

pub returns-then-is_err-2-clause-answered : goal.returns-then-is_err-2-clause-answered
returns-then-is_err-2-clause-answered c =
    let before : holding_of c.add_step.new.server ≡ before_request c.args.self.now = on_ok_there c.add_step.result _ (sym c.is_err.ensures.value ∙ c.if-is_err.false) c.add_step.ensures.added in
    may_have_acted c.args.self.now _ refl c.args.request.now _ Memory
    (subst (λ h. MayAct h (holding_of c.reply_to.new.server) c.args.request.now) before (on_err_there c.reply_to.result _ (sym c.is_err-in-LoseReply.ensures.value ∙ c.if-is_err-2.true) c.reply_to.ensures.refused))

pub returns-else-is_err-2-clause-answered : goal.returns-else-is_err-2-clause-answered
returns-else-is_err-2-clause-answered c =
    let before : holding_of c.add_step.new.server ≡ before_request c.args.self.now = on_ok_there c.add_step.result _ (sym c.is_err.ensures.value ∙ c.if-is_err.false) c.add_step.ensures.added in
    acted_unheard c.args.self.now _ refl c.args.request.now _ Failed
    (subst (λ h. Acts h (holding_of c.reply_to.new.server) c.args.request.now) before (on_ok_there c.reply_to.result _ (sym c.is_err-in-LoseReply.ensures.value ∙ c.if-is_err-2.false) c.reply_to.ensures.acts))

pub returns-in-Deliver-clause-answered : goal.returns-in-Deliver-clause-answered
returns-in-Deliver-clause-answered c =
    let before : holding_of c.add_step.new.server ≡ before_request c.args.self.now = on_ok_there c.add_step.result _ (sym c.is_err.ensures.value ∙ c.if-is_err.false) c.add_step.ensures.added in
    let request = c.args.request.now in
    delivered c.args.self.now _ refl request c.deliver.new.reply.items c.deliver.result (λ e. e ≡ Memory)
    (subst (λ h. OnOk c.deliver.result (Acts h (holding_of c.deliver.new.server) request)) before c.deliver.ensures.acts)
    (subst (λ h. OnOk c.deliver.result (IsReply h request c.deliver.new.reply.items)) before c.deliver.ensures.text)
    (subst (λ h. IfErr c.deliver.result (λ e. (e ≡ Memory) × MayAct h (holding_of c.deliver.new.server) request)) before c.deliver.ensures.refused)

pub returns-then-is_err-clause-script : goal.returns-then-is_err-clause-script
returns-then-is_err-clause-script c = keeps_some c.args.self.now _ refl refl (on_err_there c.add_step.result _ (sym c.is_err.ensures.value ∙ c.if-is_err.true) c.add_step.ensures.part)

pub returns-in-LoseRequest-clause-script : goal.returns-in-LoseRequest-clause-script
returns-in-LoseRequest-clause-script c = keeps_all c.args.self.now _ refl refl (on_ok_there c.add_step.result _ (sym c.is_err.ensures.value ∙ c.if-is_err.false) c.add_step.ensures.added)

pub returns-then-is_err-2-clause-script : goal.returns-then-is_err-2-clause-script
returns-then-is_err-2-clause-script c =
    let before : holding_of c.add_step.new.server ≡ before_request c.args.self.now = on_ok_there c.add_step.result _ (sym c.is_err.ensures.value ∙ c.if-is_err.false) c.add_step.ensures.added in
    keeps_maybe c.args.self.now _ refl refl c.args.request.now
    (subst (λ h. MayAct h (holding_of c.reply_to.new.server) c.args.request.now) before (on_err_there c.reply_to.result _ (sym c.is_err-in-LoseReply.ensures.value ∙ c.if-is_err-2.true) c.reply_to.ensures.refused))

pub returns-else-is_err-2-clause-script : goal.returns-else-is_err-2-clause-script
returns-else-is_err-2-clause-script c =
    let before : holding_of c.add_step.new.server ≡ before_request c.args.self.now = on_ok_there c.add_step.result _ (sym c.is_err.ensures.value ∙ c.if-is_err.false) c.add_step.ensures.added in
    keeps_acted c.args.self.now _ refl refl c.args.request.now
    (subst (λ h. Acts h (holding_of c.reply_to.new.server) c.args.request.now) before (on_ok_there c.reply_to.result _ (sym c.is_err-in-LoseReply.ensures.value ∙ c.if-is_err-2.false) c.reply_to.ensures.acts))

pub returns-in-Deliver-clause-script : goal.returns-in-Deliver-clause-script
returns-in-Deliver-clause-script c =
    let before : holding_of c.add_step.new.server ≡ before_request c.args.self.now = on_ok_there c.add_step.result _ (sym c.is_err.ensures.value ∙ c.if-is_err.false) c.add_step.ensures.added in
    let request = c.args.request.now in
    keeps_delivered c.args.self.now _ refl refl request c.deliver.result (λ e. e ≡ Memory)
    (subst (λ h. OnOk c.deliver.result (Acts h (holding_of c.deliver.new.server) request)) before c.deliver.ensures.acts)
    (subst (λ h. IfErr c.deliver.result (λ e. (e ≡ Memory) × MayAct h (holding_of c.deliver.new.server) request)) before c.deliver.ensures.refused)
