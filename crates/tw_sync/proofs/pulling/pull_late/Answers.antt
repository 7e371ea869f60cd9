use Rattle.std.proofs.Common.{◌≡◌, true, false, rules}
use Rattle.tw_sync.proofs.Results.{passed_on, on_ok, if_err}
use Rattle.tw_sync.proofs.Conflicts.{late_pulls}
use Rattle.tw_sync.proofs.OtherVersions.{busy}
use Rattle.tw_sync.proofs.pulling.pull_late.Goals as goal

pub returns-then-cursor-gt15-clause-stopped : goal.returns-then-cursor-gt15-clause-stopped
returns-then-cursor-gt15-clause-stopped g c = λ state first hand s.
    busy g.L.Link.model c.args.client c.args.host.now state first c.args.link.now c.args.cursor.now c.args.latest (g.met.L.Link.own_stand first) s c.if-cursor-gt15.true

pub returns-in_err-pull_one-clause-stopped : goal.returns-in_err-pull_one-clause-stopped
returns-in_err-pull_one-clause-stopped g c =
    passed_on c.from_residual.result _ _ c.from_residual.ensures.1
    (λ state first hand s. c.in_err-pull_one.ensures.stopped state first hand (late_pulls g.L.Link.model c.args.client c.args.host.now state first c.args.link.now c.args.cursor.now c.args.latest s c.if-cursor-gt15.false))

pub returns-then-not-branch-clause-stopped : goal.returns-then-not-branch-clause-stopped
returns-then-not-branch-clause-stopped g c = λ state first hand s.
    let none : c.in_ok-pull_one.field-0 ≡ false = search rules in
    c.in_ok-pull_one.ensures.late none c.if-cursor-gt15.false state first c.args.latest s

pub returns-clause-pulled : goal.returns-clause-pulled
returns-clause-pulled g c =
    let more : c.in_ok-pull_one.field-0 ≡ true = search rules in
    on_ok c.pull.result c.pull.ensures.pulled
    (λ pulled state first hand s.
    pulled state first hand (c.in_ok-pull_one.ensures.found more state first hand (late_pulls g.L.Link.model c.args.client c.args.host.now state first c.args.link.now c.args.cursor.now c.args.latest s c.if-cursor-gt15.false)))

pub returns-clause-stopped : goal.returns-clause-stopped
returns-clause-stopped g c =
    let more : c.in_ok-pull_one.field-0 ≡ true = search rules in
    if_err c.pull.result c.pull.ensures.stopped
    (λ e stopped state first hand s.
    stopped state first hand (c.in_ok-pull_one.ensures.found more state first hand (late_pulls g.L.Link.model c.args.client c.args.host.now state first c.args.link.now c.args.cursor.now c.args.latest s c.if-cursor-gt15.false)))
