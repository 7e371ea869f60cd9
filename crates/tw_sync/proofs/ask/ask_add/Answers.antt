use Rattle.std.proofs.Common.{rules, inl, sym, subst, Ok, length, ◌≤◌, IfErr}
use Rattle.tw_http.specs.declared.message.Request.TheVariants.{Add}
use Rattle.tw_http.specs.declared.message.Asked.TheVariants as asked
use Rattle.tw_http.specs.Messages.{max_body}
use Rattle.tw_http.specs.Responses.{IsResponseAnswer}
use Rattle.tw_sync.specs.Replies.Answers.{NoReply, AddRefused, IsAddAnswer, add_response, IsBadlyAnswered}
use Rattle.tw_sync.proofs.HonestAnswers.{add_answered, chain_served, add_refused, add_may_own}
use Rattle.tw_sync.proofs.HeardBadReply.{badly_refused, badly_heard}
use Rattle.tw_sync.proofs.Results.{if_ok, if_err}
use Rattle.tw_sync.proofs.ask.ask_add.Goals as goal

pub returns-in_err-reply-clause-refused_honest : goal.returns-in_err-reply-clause-refused_honest
returns-in_err-reply-clause-refused_honest g c =
    let m = g.L.Link.model in
    let old = c.args.link.now in
    let new = c.exchange.new.link in
    let none : IfErr c.from_residual.result NoReply = search rules in
    if_err c.from_residual.result none (λ e no_reply honest.
    subst (λ b. AddRefused m old new c.args.parent b e) c.from_vec.ensures
    (inl (no_reply, add_may_own m old new c.args.client c.args.parent c.from_vec.result (c.in_err-reply.ensures.may_serve honest (subst (λ b. length b ≤ max_body) (sym c.from_vec.ensures) c.requires.within)))))

pub returns-clause-answer : goal.returns-clause-answer
returns-clause-answer g c =
    let m = g.L.Link.model in
    let old = c.args.link.now in
    let new = c.exchange.new.link in
    if_ok c.add_answer.result c.add_answer.ensures.read (λ a read honest.
    subst (λ b. IsAddAnswer m old new c.args.parent b a) c.from_vec.ensures
    (add_answered m old new c.args.client c.args.parent c.from_vec.result c.in_ok-reply.reply.items a (c.in_ok-reply.ensures.served honest (subst (λ b. length b ≤ max_body) (sym c.from_vec.ensures) c.requires.within))
    (chain_served m old new c.args.client c.exchange.ensures.kept honest (g.met.L.Link.tells_chain new))
    (subst (λ b. IsResponseAnswer asked.Add b (Ok (add_response a))) c.as_slice.ensures.value read)))

pub returns-clause-refused : goal.returns-clause-refused
returns-clause-refused g c =
    if_err c.add_answer.result c.add_answer.ensures.refused (λ e bad. badly_refused g.L.Link.model c.args.link.now c.exchange.new.link (Add c.args.client c.args.parent c.from_vec.result) c.as_slice.result.now e (bad c.args.client c.args.parent c.from_vec.result))

pub returns-clause-refused_heard : goal.returns-clause-refused_heard
returns-clause-refused_heard g c =
    let asked = Add c.args.client c.args.parent c.from_vec.result in
    if_err c.add_answer.result c.add_answer.ensures.refused (λ e bad tells.
    badly_heard g.L.Link.model c.args.link.now c.exchange.new.link asked c.args.host.now c.in_ok-reply.reply.items e tt (c.in_ok-reply.ensures.listed tells)
    (subst (λ b. IsBadlyAnswered asked b e) c.as_slice.ensures.value (bad c.args.client c.args.parent c.from_vec.result)))

pub returns-clause-refused_honest : goal.returns-clause-refused_honest
returns-clause-refused_honest g c =
    let m = g.L.Link.model in
    let old = c.args.link.now in
    let new = c.exchange.new.link in
    let asked = Add c.args.client c.args.parent c.from_vec.result in
    if_err c.add_answer.result c.add_answer.ensures.refused (λ e bad honest.
    subst (λ b. AddRefused m old new c.args.parent b e) c.from_vec.ensures
    (add_refused m old new c.args.client c.args.parent c.from_vec.result c.in_ok-reply.reply.items e (c.in_ok-reply.ensures.served honest (subst (λ b. length b ≤ max_body) (sym c.from_vec.ensures) c.requires.within))
    (chain_served m old new c.args.client c.exchange.ensures.kept honest (g.met.L.Link.tells_chain new))
    (subst (λ b. IsBadlyAnswered asked b e) c.as_slice.ensures.value (bad c.args.client c.args.parent c.from_vec.result))))
