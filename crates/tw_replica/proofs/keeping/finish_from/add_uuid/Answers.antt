use Rattle.std.specs.BTreeSet as set
use Rattle.tw_model.specs.Maps.{bytes_cmp}
use Rattle.tw_numbers.proofs.SetInserts.{has_more}
use Rattle.tw_replica.proofs.keeping.finish_from.add_uuid.Goals as goal

pub returns : goal.returns
returns c = λ u. has_more (λ q. set.contains bytes_cmp c.insert.new.self q) (λ q. set.contains bytes_cmp c.args.touched.now q) u c.args.uuid (c.in_ok-insert.ensures.updates.0 u)
