use Rattle.std.proofs.Common.{◌∙◌, inr, Ok, Err, sym}
use Rattle.tw_http.specs.Requests.{IsRequestAnswer}
use Rattle.tw_server.specs.Memory.Server.{holding_of}
use Rattle.tw_http.proofs.RequestFits.{asked_fits}
use Rattle.tw_server.proofs.MemoryReplies.{answer_there, request_acts, request_response, none_acts, none_response, on_ok, on_err}
use Rattle.tw_server.proofs.Refusals.{if_ok_weaker}
use Rattle.tw_server.proofs.memory.exchange.reply_to.Goals as goal

pub answer-requires : goal.answer-requires
answer-requires c = asked_fits c.args.request.now c.in-Ok.asked (answer_there (IsRequestAnswer c.args.request.now) c.read_request-answer.result (Ok c.in-Ok.asked) c.in-Ok.is (sym c.is_no_memory.ensures ∙ c.if-is_no_memory.false) c.read_request-answer.ensures.answer)

pub returns-in_ok-response-in-Ok-clause-acts : goal.returns-in_ok-response-in-Ok-clause-acts
returns-in_ok-response-in-Ok-clause-acts c =
    let is = answer_there (IsRequestAnswer c.args.request.now) c.read_request-answer.result (Ok c.in-Ok.asked) c.in-Ok.is (sym c.is_no_memory.ensures ∙ c.if-is_no_memory.false) c.read_request-answer.ensures.answer in
    on_ok c.write_response.result _ (request_acts (holding_of c.args.server.now) (holding_of c.answer.new.self) c.args.request.now c.in-Ok.asked is c.in_ok-response-in-Ok.ensures.holds)

pub returns-in_ok-response-in-Ok-clause-text : goal.returns-in_ok-response-in-Ok-clause-text
returns-in_ok-response-in-Ok-clause-text c =
    let is = answer_there (IsRequestAnswer c.args.request.now) c.read_request-answer.result (Ok c.in-Ok.asked) c.in-Ok.is (sym c.is_no_memory.ensures ∙ c.if-is_no_memory.false) c.read_request-answer.ensures.answer in
    if_ok_weaker _ _ c.write_response.result (λ text said. request_response (holding_of c.args.server.now) c.args.request.now text.items c.in-Ok.asked c.in_ok-response-in-Ok.response is c.in_ok-response-in-Ok.ensures.says said) c.write_response.ensures.text

pub returns-in_ok-response-in-Ok-clause-refused : goal.returns-in_ok-response-in-Ok-clause-refused
returns-in_ok-response-in-Ok-clause-refused c =
    let is = answer_there (IsRequestAnswer c.args.request.now) c.read_request-answer.result (Ok c.in-Ok.asked) c.in-Ok.is (sym c.is_no_memory.ensures ∙ c.if-is_no_memory.false) c.read_request-answer.ensures.answer in
    on_err c.write_response.result _ (inr (request_acts (holding_of c.args.server.now) (holding_of c.answer.new.self) c.args.request.now c.in-Ok.asked is c.in_ok-response-in-Ok.ensures.holds))

pub returns-in-Err-clause-acts : goal.returns-in-Err-clause-acts
returns-in-Err-clause-acts c =
    let is = answer_there (IsRequestAnswer c.args.request.now) c.read_request-answer.result (Err c.in-Err.error) c.in-Err.is (sym c.is_no_memory.ensures ∙ c.if-is_no_memory.false) c.read_request-answer.ensures.answer in
    on_ok c.write_response-in-Err.result _ (none_acts (holding_of c.args.server.now) c.args.request.now c.in-Err.error is)

pub returns-in-Err-clause-text : goal.returns-in-Err-clause-text
returns-in-Err-clause-text c =
    let is = answer_there (IsRequestAnswer c.args.request.now) c.read_request-answer.result (Err c.in-Err.error) c.in-Err.is (sym c.is_no_memory.ensures ∙ c.if-is_no_memory.false) c.read_request-answer.ensures.answer in
    if_ok_weaker _ _ c.write_response-in-Err.result (λ text said. none_response (holding_of c.args.server.now) c.args.request.now text.items c.in-Err.error c.refusal_of.result is c.refusal_of.ensures said) c.write_response-in-Err.ensures.text
