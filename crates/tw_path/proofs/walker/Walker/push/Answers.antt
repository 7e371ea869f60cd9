use Rattle.std.proofs.Common.{sym, refl}
use Rattle.tw_path.specs.declared.walker.Walker.{Walker}
use Rattle.tw_path.proofs.Pushing.{stands_pushed}
use Rattle.tw_path.proofs.walker.Walker.push.Goals as goal

pub returns : goal.returns
returns c = λ hand r v e s.
    let old : Walker = c.args.self.now in
    let new : Walker = record { at = c.args.id; mine = old.mine; tasks = c.apply_sent.new.tasks; there = c.apply_sent.new.there; left = c.take_from.new.left; carried = old.carried } in
    stands_pushed hand r v c.args.ops.now.items c.args.batch old new s c.requires (sym e) refl c.in_ok-apply_sent.ensures.tasks c.in_ok-apply_sent.ensures.there
    c.take_from.ensures refl
