use Rattle.std.proofs.Common.{◌∙◌, ap, sym, is_some, option_map}
use Rattle.uuid.specs.Parts.{zero_bytes}
use Rattle.tw_records.specs.Log.{chain_of, account_of}
use Rattle.tw_server.specs.declared.images.Placed.{Placed}
use Rattle.tw_server.specs.Versions.{is_not_before}
use Rattle.tw_server.proofs.Places.{place_known, has_place, later_from, welcome_some, welcome_none}
use Rattle.tw_server.proofs.server.Server.is_welcome.Goals as goal

pub returns-in-Some : goal.returns-in-Some
returns-in-Some c log knows sound =
    let chain = chain_of c.args.client log.versions in
    let entries = c.args.self.now.versions.entries.items in
    let stored = ap (option_map (λ (p : Placed). p.version)) (sym c.in-Some.is ∙ c.get.ensures) ∙ knows.images c.args.client in
    c.is_not_before.ensures
    ∙ (λ i. is_not_before (place_known c.args.client c.in-Some.stored.version log.versions entries c.place.result c.place.ensures knows.entries i)
    (place_known c.args.client c.args.version log.versions entries c.place-place.result c.place-place.ensures knows.entries i))
    ∙ sym (later_from zero_bytes c.args.version c.in-Some.stored.version chain (sound.chains c.args.client).differ)
    ∙ sym (welcome_some (account_of c.args.client log).stored c.in-Some.stored.version c.args.version chain (sym stored))

pub returns-in-None : goal.returns-in-None
returns-in-None c log knows sound =
    let chain = chain_of c.args.client log.versions in
    let stored = ap (option_map (λ (p : Placed). p.version)) (sym c.in-None.is ∙ c.get.ensures) ∙ knows.images c.args.client in
    c.is_some.ensures ∙ ap is_some (place_known c.args.client c.args.version log.versions c.args.self.now.versions.entries.items c.place-place.result c.place-place.ensures knows.entries)
    ∙ has_place c.args.version chain ∙ sym (welcome_none (account_of c.args.client log).stored c.args.version chain (sym stored))
