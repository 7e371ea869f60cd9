use Rattle.std.proofs.Common.{Ok, Err, subst}
use Rattle.tw_sync.specs.Replies.Given.{ReadsResponse}
use Rattle.tw_sync.proofs.Results.{if_ok}
use Rattle.tw_sync.proofs.GivenFacts.{brings_none}
use Rattle.tw_sync.proofs.given.given_in.Goals as goal

pub returns-in-Some-clause-read : goal.returns-in-Some-clause-read
returns-in-Some-clause-read c =
    let read = subst (ReadsResponse c.args.bytes.now) c.in-Some.is c.in_ok-response.ensures.read in
    if_ok c.given_by.result c.given_by.ensures.brings (λ given brings. (Ok c.in-Some.response, read, brings))

pub returns-in-None-clause-read : goal.returns-in-None-clause-read
returns-in-None-clause-read c =
    let read = subst (ReadsResponse c.args.bytes.now) c.in-None.is c.in_ok-response.ensures.read in
    (Err read.0, read.1, brings_none (Err read.0) tt)
