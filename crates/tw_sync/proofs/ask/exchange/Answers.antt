use Rattle.std.proofs.Common.{Ok, OnErr, Result, Err}
use Rattle.tw_sync.proofs.Sending.{sent_is_read}
use Rattle.tw_sync.proofs.ask.exchange.Goals as goal

pub returns-in_err-exchange-clause-may_serve : goal.returns-in_err-exchange-clause-may_serve
returns-in_err-exchange-clause-may_serve g c =
    by c.from_residual-in_err-exchange.result (λ honest few. c.in_err-exchange.ensures.answered.served c.args.request.now honest
    (sent_is_read c.in_ok-text.text.items c.as_slice.result.now c.args.request.now c.as_slice.ensures.value c.in_ok-text.ensures.back few))
  where
    by : {A E P : Type 0} (r : Result A E) → P → OnErr r P
    by (Ok a) p = tt
    by (Err e) p = p

pub returns-clause-served : goal.returns-clause-served
returns-clause-served g c honest few =
    c.in_ok-exchange.ensures.answered.served c.args.request.now honest
    (sent_is_read c.in_ok-text.text.items c.as_slice.result.now c.args.request.now c.as_slice.ensures.value c.in_ok-text.ensures.back few)
