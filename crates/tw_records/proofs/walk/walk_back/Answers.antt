use Rattle.std.proofs.Common.{◌-◌, refl, arith}
use Rattle.tw_records.specs.Bodies.{block_size}
use Rattle.tw_records.proofs.Walks.{first_walked, walked}
use Rattle.tw_records.proofs.walk.walk_back.Goals as goal

pub loop-n-init : goal.loop-n-init
loop-n-init c = record {
  within = omega arith;
  walked = λ bodies same. first_walked block_size bodies c.args.kinds.now same _ _ refl c.new-found.ensures.items;
}

pub loop-n-preserved : goal.loop-n-preserved
loop-n-preserved c =
    let l = c.loop-n in
    let some = c.loop-n-test.true in
    let within = l.invariant.within in
    record {
      within = omega (arith, within);
      walked = λ bodies same.
          walked block_size bodies c.args.kinds.now same l.n (l.n - 1) l.walk.passing l.walk.block l.found.items _ (omega (arith, some)) (omega (arith, some, within)) refl (l.invariant.walked bodies same) _ _ _
          c.in_ok-next.ensures.passing c.in_ok-next.ensures.block c.in_ok-next.ensures.found;
    }
