use Rattle.std.proofs.Common.{◌≡◌, ℕ, subst, add-one, arith}
use Rattle.tw_generate.specs.Changes as spec
use Rattle.tw_generate.proofs.changes.moved.Goals as goal

pub loop-i-preserved : goal.loop-i-preserved
loop-i-preserved c = rw add-one (cc (c.in_ok-push_moved.ensures, c.loop-i.invariant))

pub returns : goal.returns
returns c =
    let end : c.loop-i.i ≡ c.args.count = omega arith in
    subst (λ (n : ℕ). c.loop-i.changes.items ≡ spec.moved c.args.seed c.args.divisor c.args.project.now n) end c.loop-i.invariant
