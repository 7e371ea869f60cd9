use Rattle.std.proofs.Common.{◌≡◌, List, [], ◌++◌, arith, rules}
use Rattle.tw_sync.proofs.Results.{passed_on}
use Rattle.tw_sync.proofs.Hearing.{hears_none, hears_on}
use Rattle.tw_audit.proofs.OnTheWay.{on_the_way_at_nil}
use Rattle.tw_audit.proofs.Asking.{asks_none, asks_on, tells_on, honest_on, honest_back}
use Rattle.tw_audit.proofs.Stopping.{refused_later}
use Rattle.tw_audit.proofs.folding.fold_to.Goals as goal

pub loop-alloc-init : goal.loop-alloc-init
loop-alloc-init g c =
    let m = g.L.Link.model in
    let link = c.args.link.now in record {
      asks = asks_none m c.args.client c.args.host.now link (g.met.L.Link.tells_chain link);
      exchanges = omega arith;
      heard = λ tells. ([], hears_none m c.args.client c.args.host.now link);
      way = λ honest. on_the_way_at_nil (m.chain link) c.args.base _ (search rules) (search rules) (search rules);
    }

pub loop-alloc-preserved : goal.loop-alloc-preserved
loop-alloc-preserved g c =
    let m = g.L.Link.model in
    let first = c.args.link.now in
    let a = c.loop-alloc.link in
    let b = c.go_on.new.link in
    let i = c.loop-alloc.invariant in
    let step = c.in_ok-go_on.ensures.goes_on in record {
      asks = asks_on m c.args.client c.args.host.now first a b i.asks c.go_on.ensures.asks;
      exchanges = (let one = i.exchanges in let two = step.exchanges in let n = step.count in omega (arith, one, two, n));
      heard = λ tells. (let hs = i.heard tells in let ks = step.heard (tells_on m c.args.client c.args.host.now first a i.asks tells) in
          (hs.0 ++ ks.0, hears_on m c.args.client c.args.host.now first a b hs.0 ks.0 hs.1 ks.1));
      way = λ honest. step.way (honest_on m c.args.client c.args.host.now first a i.asks honest) (i.way honest);
    }

pub returns-in_err-go_on-clause-asks : goal.returns-in_err-go_on-clause-asks
returns-in_err-go_on-clause-asks g c = asks_on g.L.Link.model c.args.client c.args.host.now c.args.link.now c.loop-alloc.link c.go_on.new.link c.loop-alloc.invariant.asks c.go_on.ensures.asks

pub returns-in_err-go_on-clause-stopped : goal.returns-in_err-go_on-clause-stopped
returns-in_err-go_on-clause-stopped g c =
    let m = g.L.Link.model in
    let i = c.loop-alloc.invariant in
    passed_on c.from_residual.result _ _ c.from_residual.ensures.1
    (refused_later m c.args.client c.args.host.now c.args.base c.args.link.now c.loop-alloc.link c.go_on.new.link c.in_err-go_on.field-0.0 i.asks i.heard
    (c.in_err-go_on.ensures.stopped.why (λ honest. i.way (honest_back m c.args.client c.args.host.now c.args.link.now c.loop-alloc.link i.asks honest))))

pub loop-alloc-smaller : goal.loop-alloc-smaller
loop-alloc-smaller g c =
    let one = c.in_ok-go_on.ensures.goes_on.count in
    let within = c.in_ok-go_on.ensures.goes_on.within in
    omega (arith, one, within)
