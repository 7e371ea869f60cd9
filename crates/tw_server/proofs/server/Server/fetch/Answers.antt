use Rattle.std.proofs.Common.{inr, ◌∙◌, ◌++◌, refl, sym, ap, subst, option_map}
use Rattle.tw_journal.specs.Journal.{HasBody}
use Rattle.tw_records.proofs.Spelled.{bare_image_front}
use Rattle.tw_server.specs.declared.images.Placed.{Placed}
use Rattle.tw_server.specs.Server.{AnswerRefused}
use Rattle.tw_server.proofs.Refusals.{from_fault}
use Rattle.tw_server.proofs.Records.{image_known, fetched_response, absent_response}
use Rattle.tw_server.proofs.Remembered.{fetched_known, absent_known}
use Rattle.tw_server.proofs.server.Server.fetch.Goals as goal

pub rest-requires-clause-inside : goal.rest-requires-clause-inside
rest-requires-clause-inside g c = c.args.self.now.placed c.requires.open c.args.client c.in-Some.stored (sym c.get.ensures ∙ c.in-Some.is)

pub returns-in_ok-bytes-in-Some-clause-says : goal.returns-in_ok-bytes-in-Some-clause-says
returns-in_ok-bytes-in-Some-clause-says g c log on id =
    let bytes = c.in_ok-bytes-in-Some.bytes in
    let front = c.as_slice.ensures.value ∙ c.in_ok-front-in-Some.ensures.items ∙ bare_image_front (record { client = c.args.client; version = c.in-Some.stored.version }) in
    fetched_response c.args.self.now on.bodies log on.places c.args.client c.in-Some.stored (sym c.get.ensures ∙ c.in-Some.is) bytes id (c.in_ok-bytes-in-Some.ensures.rest _ on.bodies on.journal ∙ ap (λ f. f ++ bytes) front)

pub returns-in-None-clause-says : goal.returns-in-None-clause-says
returns-in-None-clause-says g c log on id =
    absent_response log c.args.client id (ap (option_map (λ (p : Placed). p.version)) (sym c.in-None.is ∙ c.get.ensures) ∙ on.places.knows.images c.args.client)

pub returns-in_ok-bytes-in-Some-clause-remembered : goal.returns-in_ok-bytes-in-Some-clause-remembered
returns-in_ok-bytes-in-Some-clause-remembered g c = λ ids.
    let stored = sym c.get.ensures ∙ c.in-Some.is in
    let bytes = c.in_ok-bytes-in-Some.bytes in
    let front = c.as_slice.ensures.value ∙ c.in_ok-front-in-Some.ensures.items ∙ bare_image_front (record { client = c.args.client; version = c.in-Some.stored.version }) in
    record {
      answer = λ log known sound. fetched_known c.args.client c.args.self.now log ids c.in-Some.stored bytes known stored;
      bytes = λ tells. record {
        placed = c.in-Some.stored;
        stored = stored;
        stands = subst (λ f. HasBody c.args.self.now.journal (g.D.Disk.model.seen c.args.disk.now) c.in-Some.stored.number (f ++ bytes)) front (c.in_ok-bytes-in-Some.ensures.there tells);
      };
    }

pub returns-in-None-clause-remembered : goal.returns-in-None-clause-remembered
returns-in-None-clause-remembered g c = λ ids. record {
  answer = λ log known sound. absent_known c.args.client c.args.self.now log ids known (sym c.get.ensures ∙ c.in-None.is);
  bytes = tt;
}

pub returns-in_err-bytes-in-Some-clause-refused : goal.returns-in_err-bytes-in-Some-clause-refused
returns-in_err-bytes-in-Some-clause-refused g c =
    let stored = sym c.get.ensures ∙ c.in-Some.is in
    let front = c.as_slice.ensures.value ∙ c.in_ok-front-in-Some.ensures.items ∙ bare_image_front (record { client = c.args.client; version = c.in-Some.stored.version }) in
    from_fault (AnswerRefused g.D.Disk.model c.args.self.now c.args.self.now c.args.disk.now c.rest.new.disk) c.from_residual-in_err-bytes-in-Some.result c.in_err-bytes-in-Some.field-0.0 c.from_residual-in_err-bytes-in-Some.ensures.1
    (c.in_err-bytes-in-Some.ensures.refused (
      inr (record { client = c.args.client; placed = c.in-Some.stored; stored = stored; number = refl; is = front }),
      λ log on. image_known c.args.self.now on.bodies log on.places c.args.client c.in-Some.stored stored c.as_slice.result.now front,
    ))
