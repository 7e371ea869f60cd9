use Rattle.std.proofs.Common.{Result, Ok, Err, OnOk}
use Rattle.std.specs.BTreeSet as set
use Rattle.tw_model.specs.Maps.{bytes_cmp}
use Rattle.tw_numbers.proofs.SetInserts.{has_more}
use Rattle.tw_replica.proofs.step.edit.make_one.Goals as goal

on_ok : {A E P : Type 0} (r : Result A E) → P → OnOk r P
on_ok (Ok a) p = p
on_ok (Err e) p = tt

pub returns-clause-touched : goal.returns-clause-touched
returns-clause-touched c = on_ok c.make.result (λ u. has_more (λ q. set.contains bytes_cmp c.insert.new.self q) (λ q. set.contains bytes_cmp c.args.touched.now q) u c.args.change.uuid (c.in_ok-insert.ensures.updates.0 u))
