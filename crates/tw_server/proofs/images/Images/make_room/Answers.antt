use Rattle.std.proofs.Common.{None}
use Rattle.std.specs.BTreeMap.{get}
use Rattle.tw_server.specs.Versions.{uuid_cmp}
use Rattle.tw_server.proofs.VersionMaps.{exact_uuids, absent, still_found}
use Rattle.tw_server.proofs.images.Images.make_room.Goals as goal

pub returns-in_ok-insert-clause-same : goal.returns-in_ok-insert-clause-same
returns-in_ok-insert-clause-same c =
    still_found uuid_cmp exact_uuids (λ q. get uuid_cmp c.args.self.now.map q) (λ q. get uuid_cmp c.insert.new.self q) c.args.client None
    (absent (get uuid_cmp c.args.self.now.map c.args.client) c.contains_key.result c.contains_key.ensures c.if-not-contains_key.true) c.in_ok-insert.ensures.updates.0
