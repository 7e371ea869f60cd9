use Rattle.std.proofs.Common.{Err, subst}
use Rattle.tw_http.specs.Responses.{IsResponseAnswer}
use Rattle.tw_http.specs.Faults.{Unless}
use Rattle.tw_sync.proofs.Replies.{reply_answers}
use Rattle.tw_sync.proofs.ask.read_reply.Goals as goal

pub unreachable-requires : goal.unreachable-requires
unreachable-requires c =
    let what = c.args.asked in
    let bytes = c.args.bytes.now in
    let read = subst (λ e. Unless (IsResponseAnswer what bytes) (Err e)) c.in-Err-Path.field-0-is (c.in-Err-Path.ensures.answer) in
    reply_answers what bytes (Err _) read
