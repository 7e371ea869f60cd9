use Rattle.std.proofs.Common.{subst, arith}
use Rattle.tw_sync.specs.Way.Sending.{Pushes, CountsSent}
use Rattle.tw_sync.proofs.Results.{passed_on}
use Rattle.tw_sync.proofs.ReplicaMoved.{nothing_left}
use Rattle.tw_sync.proofs.engine.meet.Goals as goal

pub returns-in_err-push-clause-stopped : goal.returns-in_err-push-clause-stopped
returns-in_err-push-clause-stopped g c =
    passed_on c.from_residual-in_err-push.result _ _ c.from_residual-in_err-push.ensures.1
    (λ state first hand s. c.in_err-push.ensures.stopped state first (c.loop-alloc.invariant.pulled state first hand s))

pub returns-clause-met : goal.returns-clause-met
returns-clause-met g c = λ state first hand s.
    let p = c.loop-alloc.invariant.pulled state first hand s in
    record { pulled = p; nothing = nothing_left state p.legs c.loop-alloc.cursor p.on_path (c.has_left.ensures.none c.loop-alloc-test.false) }

-- ---- what was sent is added, or came too late

pub loop-alloc-preserved-in-Added : goal.loop-alloc-preserved-in-Added
loop-alloc-preserved-in-Added g c =
    let counted = subst (λ r. CountsSent r c.loop-alloc.cursor c.push.new.cursor) c.in-Added.is c.in_ok-push.ensures.counted in
    record {
      pulled = λ state first hand s. subst (λ r. Pushes r g.L.Link.model c.args.client c.args.host.now state first c.push.new.link c.push.new.cursor) c.in-Added.is (c.in_ok-push.ensures.pushed state first (c.loop-alloc.invariant.pulled state first hand s));
      few = (let same = counted.0 in let few = c.loop-alloc.invariant.few in omega (arith, same, few));
    }

pub loop-alloc-preserved : goal.loop-alloc-preserved
loop-alloc-preserved g c = record {
  pulled = λ state first hand s. c.in_ok-pull_late-in-Late.ensures.pulled state first hand (subst (λ r. Pushes r g.L.Link.model c.args.client c.args.host.now state first c.push.new.link c.push.new.cursor) c.in-Late.is (c.in_ok-push.ensures.pushed state first (c.loop-alloc.invariant.pulled state first hand s)));
  few = c.in_ok-pull_late-in-Late.ensures.few;
}

pub returns-in_err-pull_late-in-Late-clause-stopped : goal.returns-in_err-pull_late-in-Late-clause-stopped
returns-in_err-pull_late-in-Late-clause-stopped g c =
    passed_on c.from_residual-in_err-pull_late-in-Late.result _ _ c.from_residual-in_err-pull_late-in-Late.ensures.1
    (λ state first hand s. c.in_err-pull_late-in-Late.ensures.stopped state first hand (subst (λ r. Pushes r g.L.Link.model c.args.client c.args.host.now state first c.push.new.link c.push.new.cursor) c.in-Late.is (c.in_ok-push.ensures.pushed state first (c.loop-alloc.invariant.pulled state first hand s))))
