use Rattle.std.proofs.Common.{arith, subst, Ok, inl, inr}
use Rattle.tw_http.specs.declared.message.Request.TheVariants.{Child}
use Rattle.tw_http.specs.declared.message.Asked.TheVariants as asked
use Rattle.tw_http.specs.Responses.{IsResponseAnswer}
use Rattle.tw_sync.specs.Replies.Answers.{child_response, IsBadlyAnswered}
use Rattle.tw_sync.proofs.HonestAnswers.{child_answered, chain_served, child_no_reply}
use Rattle.tw_sync.proofs.HeardBadReply.{badly_refused, badly_heard}
use Rattle.tw_sync.proofs.Results.{if_ok, if_err}
use Rattle.tw_sync.proofs.ask.ask_child.Goals as goal

pub returns-clause-answer : goal.returns-clause-answer
returns-clause-answer g c =
    let m = g.L.Link.model in
    let old = c.args.link.now in
    let new = c.exchange.new.link in
    if_ok c.child_answer.result c.child_answer.ensures.read (λ a read honest.
    child_answered m old new c.args.client c.args.parent c.in_ok-reply.reply.items a (c.in_ok-reply.ensures.served honest (omega arith)) (chain_served m old new c.args.client c.exchange.ensures.kept honest (g.met.L.Link.tells_chain new))
    (subst (λ b. IsResponseAnswer asked.Child b (Ok (child_response c.args.parent a))) c.as_slice.ensures.value read))

pub returns-clause-refused : goal.returns-clause-refused
returns-clause-refused g c =
    if_err c.child_answer.result c.child_answer.ensures.refused (λ e bad. badly_refused g.L.Link.model c.args.link.now c.exchange.new.link (Child c.args.client c.args.parent) c.as_slice.result.now e (bad c.args.client))

pub returns-clause-refused_heard : goal.returns-clause-refused_heard
returns-clause-refused_heard g c =
    if_err c.child_answer.result c.child_answer.ensures.refused (λ e bad tells.
    badly_heard g.L.Link.model c.args.link.now c.exchange.new.link (Child c.args.client c.args.parent) c.args.host.now c.in_ok-reply.reply.items e tt (c.in_ok-reply.ensures.listed tells)
    (subst (λ b. IsBadlyAnswered (Child c.args.client c.args.parent) b e) c.as_slice.ensures.value (bad c.args.client)))

pub returns-clause-refused_honest : goal.returns-clause-refused_honest
returns-clause-refused_honest g c =
    let m = g.L.Link.model in
    let old = c.args.link.now in
    let new = c.exchange.new.link in
    if_err c.child_answer.result c.child_answer.ensures.refused (λ e bad honest.
    child_no_reply m old new c.args.client c.args.parent c.in_ok-reply.reply.items e (c.in_ok-reply.ensures.served honest (omega arith)) (chain_served m old new c.args.client c.exchange.ensures.kept honest (g.met.L.Link.tells_chain new))
    (subst (λ b. IsBadlyAnswered (Child c.args.client c.args.parent) b e) c.as_slice.ensures.value (bad c.args.client)))

pub returns-in_err-reply-clause-sends : goal.returns-in_err-reply-clause-sends
returns-in_err-reply-clause-sends g c = λ tells. inl (c.in_err-reply.ensures.unlisted tells)

pub returns-clause-sends : goal.returns-clause-sends
returns-clause-sends g c = λ tells. inr (c.in_ok-reply.reply.items, c.in_ok-reply.ensures.listed tells)
