use Rattle.std.proofs.Common.{◌≡◌, ◌∙◌, false, sym, ap, subst, Some, arith}
use Rattle.std.specs.List.{position}
use Rattle.std.proofs.lemmas.Grind.{get_or_default_zero}
use Rattle.tw_server.specs.Index.{IsIndexOf, keys_of}
use Rattle.tw_server.specs.Versions.{is_keyed}
use Rattle.tw_server.proofs.VersionMaps.{place_found, place_none}
use Rattle.tw_server.proofs.versions.Versions.place.Goals as goal

pub found-requires : goal.found-requires
found-requires c = subst (λ es. IsIndexOf c.args.self.now.ids (keys_of false es)) (sym c.as_slice.ensures.value) c.args.self.now.ids_are

pub index-requires : goal.index-requires
index-requires c =
    let versions = c.args.self.now in
    let at = ap (position (is_keyed false c.args.client c.args.id)) (sym c.as_slice.ensures.value) ∙ sym c.found.ensures ∙ c.in-Some.is in
    let there = (place_found c.args.client c.args.id versions.places.items versions.entries.items c.in-Some.n versions.places_are at).0 in
    omega (arith, there)

pub returns-in-Some : goal.returns-in-Some
returns-in-Some c =
    let versions = c.args.self.now in
    let at = ap (position (is_keyed false c.args.client c.args.id)) (sym c.as_slice.ensures.value) ∙ sym c.found.ensures ∙ c.in-Some.is in
    let there = place_found c.args.client c.args.id versions.places.items versions.entries.items c.in-Some.n versions.places_are at in
    ap (λ k. Some k) (c.index.ensures ∙ get_or_default_zero versions.places.items c.in-Some.n c.index.result.now there.0) ∙ there.1

pub returns-in-None : goal.returns-in-None
returns-in-None c =
    place_none c.args.client c.args.id c.args.self.now.entries.items
    (ap (position (is_keyed false c.args.client c.args.id)) (sym c.as_slice.ensures.value) ∙ sym c.found.ensures ∙ c.in-None.is)
