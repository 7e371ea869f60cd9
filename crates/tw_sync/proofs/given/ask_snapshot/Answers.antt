use Rattle.std.proofs.Common.{arith, inr, subst, sym}
use Rattle.tw_sync.specs.Replies.Answers.{AskRefused}
use Rattle.tw_sync.specs.Replies.Given.{ReadsGiven, IsUnheard}
use Rattle.tw_sync.specs.Ends.Causes.{of_ask}
use Rattle.tw_sync.proofs.Results.{if_ok, if_err, passed_on}
use Rattle.tw_sync.proofs.GivenFacts.{unheard, asked_for, unread, hears_nothing}
use Rattle.tw_sync.proofs.given.ask_snapshot.Goals as goal

pub returns-in_err-reply-clause-unheard : goal.returns-in_err-reply-clause-unheard
returns-in_err-reply-clause-unheard g c =
    let m = g.L.Link.model in
    let old = c.args.link.now in
    let new = c.exchange.new.link in
    let e = c.in_err-reply.field-0.0 in
    passed_on c.from_residual.result _ _ c.from_residual.ensures.1
    (unheard m c.args.client c.args.host.now old new c.exchange.ensures.kept (g.met.L.Link.tells_chain new) e c.exchange.ensures.count
    (λ tells. hears_nothing m c.args.client c.args.host.now old new e c.in_err-reply.ensures.no_reply (c.in_err-reply.ensures.unlisted tells))
    (λ honest. c.in_err-reply.ensures.may_serve honest (omega arith)))

pub returns-clause-asked : goal.returns-clause-asked
returns-clause-asked g c =
    let m = g.L.Link.model in
    let old = c.args.link.now in
    let new = c.exchange.new.link in
    if_ok c.given_in.result c.given_in.ensures.read (λ given read.
    asked_for m c.args.client c.args.host.now old new c.exchange.ensures.kept (g.met.L.Link.tells_chain new) c.in_ok-reply.reply.items given c.exchange.ensures.count c.in_ok-reply.ensures.listed
    (λ honest. c.in_ok-reply.ensures.served honest (omega arith)) (subst (λ b. ReadsGiven b given) c.as_slice.ensures.value read))

pub returns-clause-unheard : goal.returns-clause-unheard
returns-clause-unheard g c =
    let m = g.L.Link.model in
    let old = c.args.link.now in
    let new = c.exchange.new.link in
    if_err c.given_in.result c.given_in.ensures.refused (λ e is.
    subst (λ x. IsUnheard m c.args.client c.args.host.now old new (of_ask x)) (sym is)
    (unread m c.args.client c.args.host.now old new c.exchange.ensures.kept (g.met.L.Link.tells_chain new) c.in_ok-reply.reply.items c.exchange.ensures.count c.in_ok-reply.ensures.listed
    (λ honest. c.in_ok-reply.ensures.served honest (omega arith))))

pub returns-clause-no_reply : goal.returns-clause-no_reply
returns-clause-no_reply g c = if_err c.given_in.result c.given_in.ensures.refused (λ e is. inr is)

pub returns-clause-refused : goal.returns-clause-refused
returns-clause-refused g c = if_err c.given_in.result c.given_in.ensures.refused (λ e is. subst (AskRefused g.L.Link.model c.args.link.now c.exchange.new.link) (sym is) tt)
