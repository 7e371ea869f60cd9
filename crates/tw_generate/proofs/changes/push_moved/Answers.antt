use Rattle.std.proofs.Common.{◌≡◌, ◌==◌, ◌%◌, true, eq-eqb}
use Rattle.tw_generate.proofs.changes.push_moved.Goals as goal

pub returns : goal.returns
returns c =
    let e : (c.args.i % c.args.divisor == 0) ≡ true = eq-eqb _ _ c.if-i-divisor-ne0.false in
    rw e (cc (c.in_ok-push.ensures.items, c.in_ok-moved_task.ensures, c.uuid_of.ensures))
