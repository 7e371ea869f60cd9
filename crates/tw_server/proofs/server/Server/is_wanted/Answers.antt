use Rattle.std.proofs.Common.{◌∙◌, ap, sym, nat_le, option_map}
use Rattle.tw_records.specs.Log.{chain_of, account_of}
use Rattle.tw_server.specs.declared.images.Placed.{Placed}
use Rattle.tw_server.specs.Versions.{after_place}
use Rattle.tw_server.proofs.Places.{place_known, count_known, since_from, since_some, since_none}
use Rattle.tw_server.proofs.server.Server.is_wanted.Goals as goal

pub returns-in-Some : goal.returns-in-Some
returns-in-Some c log knows =
    let client = c.args.client in
    let chain = chain_of client log.versions in
    let entries = c.args.self.now.versions.entries.items in
    let stored = ap (option_map (λ (p : Placed). p.version)) (sym c.in-Some.is ∙ c.get.ensures) ∙ knows.images client in
    ap (nat_le 100) (c.after_place.ensures
    ∙ (λ i. after_place (place_known client c.in-Some.stored.version log.versions entries c.place.result c.place.ensures knows.entries i)
    (count_known client log.versions entries c.count-count.result c.count-count.ensures knows.entries i))
    ∙ sym (since_from c.in-Some.stored.version chain)
    ∙ sym (since_some (account_of client log).stored c.in-Some.stored.version chain (sym stored)))

pub returns-in-None : goal.returns-in-None
returns-in-None c log knows =
    let client = c.args.client in
    let chain = chain_of client log.versions in
    let stored = ap (option_map (λ (p : Placed). p.version)) (sym c.in-None.is ∙ c.get.ensures) ∙ knows.images client in
    ap (nat_le 100) (count_known client log.versions c.args.self.now.versions.entries.items c.count-count.result c.count-count.ensures knows.entries
    ∙ sym (since_none (account_of client log).stored chain (sym stored)))
