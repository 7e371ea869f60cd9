use Rattle.std.proofs.Common.{◌≡◌, subst, ◌∙◌}
use Rattle.tw_sync.specs.Way.Progress.{ends_late, PullsOn}
use Rattle.tw_sync.proofs.ExpectedReplies.{asks}
use Rattle.tw_sync.proofs.Results.{passed_on}
use Rattle.tw_sync.proofs.pulling.pull.Goals as goal

pub returns-in_err-pull_one-clause-stopped : goal.returns-in_err-pull_one-clause-stopped
returns-in_err-pull_one-clause-stopped g c =
    passed_on c.from_residual.result _ _ c.from_residual.ensures.1
    (λ state first hand s. c.in_err-pull_one.ensures.stopped state first hand (asks g.L.Link.model c.args.client c.args.host.now state first c.loop.link c.loop.cursor (λ hs. ends_late hs ≡ 0) (c.loop.invariant.pulls state first hand s)))

pub loop-preserved : goal.loop-preserved
loop-preserved g c = record {
  pulls = λ state first hand s. subst (λ b. PullsOn b g.L.Link.model c.args.client c.args.host.now state first c.pull_one.new.link c.pull_one.new.cursor) c.if-branch.true (c.in_ok-pull_one.ensures.goes_on state first hand (c.loop.invariant.pulls state first hand s));
  conflicts = c.in_ok-pull_one.ensures.conflicts ∙ c.loop.invariant.conflicts;
  unsent = c.in_ok-pull_one.ensures.unsent ∙ c.loop.invariant.unsent;
}

pub returns-clause-pulled : goal.returns-clause-pulled
returns-clause-pulled g c = λ state first hand s.
    subst (λ b. PullsOn b g.L.Link.model c.args.client c.args.host.now state first c.pull_one.new.link c.pull_one.new.cursor) c.if-branch.false (c.in_ok-pull_one.ensures.goes_on state first hand (c.loop.invariant.pulls state first hand s))
