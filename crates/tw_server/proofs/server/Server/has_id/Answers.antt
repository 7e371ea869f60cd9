use Rattle.std.proofs.Common.{◌∙◌, ap, is_some}
use Rattle.tw_records.specs.Log.{chain_of}
use Rattle.tw_server.proofs.Places.{place_known, has_place}
use Rattle.tw_server.proofs.server.Server.has_id.Goals as goal

pub returns : goal.returns
returns c log knows =
    c.is_some.ensures ∙ ap is_some (place_known c.args.client c.args.id log.versions c.args.self.now.versions.entries.items c.place.result c.place.ensures knows.entries)
    ∙ has_place c.args.id (chain_of c.args.client log.versions)
