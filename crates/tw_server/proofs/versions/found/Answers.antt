use Rattle.std.proofs.Common.{◌≡◌, ◌∙◌, ◌-◌, ◌<◌, length, sym, ap, subst, cond, Some, arith}
use Rattle.tw_server.specs.Versions.{is_keyed}
use Rattle.tw_server.proofs.Buckets.{IsWalk, walk_begun, walk_further, walk_goes_down, walk_ended}
use Rattle.tw_server.proofs.versions.found.Goals as goal

pub loop-after-init : goal.loop-after-init
loop-after-init c =
    let index = c.args.index.now in
    walk_begun (length index.ends.items) index.ends.items index.before.items c.args.by_parent c.args.client c.args.key c.args.entries.now c.requires c.last-after.result c.last-after.ensures

pub loop-after-preserved : goal.loop-after-preserved
loop-after-preserved c =
    let index = c.args.index.now in
    let l = c.loop-after in
    let is = c.if_keyed-first.ensures ∙ ap (λ t. cond t (Some (l.after - 1)) l.first) c.is_keyed.ensures in
    subst (IsWalk (length index.ends.items) c.args.by_parent c.args.client c.args.key c.args.entries.now c.before-after.result) (sym is)
    (walk_further (length index.ends.items) index.ends.items index.before.items c.args.by_parent c.args.client c.args.key c.args.entries.now c.requires l.after (l.after - 1) c.before-after.result l.first c.index-entries-n.result
    l.invariant (omega arith) (omega arith) c.index-entries-n.is c.before-after.ensures)

pub returns : goal.returns
returns c =
    let index = c.args.index.now in
    let l = c.loop-after in
    walk_ended (length index.ends.items) index.ends.items index.before.items c.args.by_parent c.args.client c.args.key c.args.entries.now c.requires l.after l.first l.invariant (omega arith)

pub loop-after-smaller : goal.loop-after-smaller
loop-after-smaller c =
    let index = c.args.index.now in
    let l = c.loop-after in
    walk_goes_down (length index.ends.items) index.ends.items index.before.items c.args.by_parent c.args.client c.args.key c.args.entries.now c.requires l.after (l.after - 1) c.before-after.result l.first
    l.invariant (omega arith) (omega arith) c.before-after.ensures
