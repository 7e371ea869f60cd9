use Rattle.std.proofs.Common.{◌++◌, Ok, subst, sym}
use Rattle.tw_http.specs.Requests.{IsRequestAnswer}
use Rattle.tw_http.proofs.RequestBack.{request_back}
use Rattle.tw_http.proofs.request_writer.write_request.Goals as goal

pub returns-clause-back : goal.returns-clause-back
returns-clause-back c more few =
    subst (λ bytes. IsRequestAnswer (bytes ++ more) (Ok c.args.request.now)) (sym c.in_ok-parts.ensures.text)
    (request_back c.args.request.now c.args.host.now more c.requires few c.in_ok-parts.ensures.back.0 c.in_ok-parts.ensures.back.1)
