use Rattle.std.proofs.Common.{sym, ap, ◌∙◌, ◌++◌, None, Some}
use Rattle.timew_bridge.specs.Track.{followed}
use Rattle.timew_bridge.proofs.Following.{driven}
use Rattle.timew_bridge.proofs.driving.drive_by.Goals as goal

pub returns-in_ok-follow-in-Some : goal.returns-in_ok-follow-in-Some
returns-in_ok-follow-in-Some c =
    driven c.args.tasks.now c.args.now c.args.front.now c.args.last.items _ (Some c.in-Some.active) c.requires.closed (sym c.requires.latest ∙ c.in-Some.is)
    (c.in_ok-follow-in-Some.ensures c.args.tasks.now c.in_ok-label-in-Some.ensures
    ∙ ap (λ l. followed c.args.tasks.now c.args.now (Some c.in-Some.active) (c.args.front.now ++ l)) c.in_ok-last.ensures)

pub returns-in-None : goal.returns-in-None
returns-in-None c =
    driven c.args.tasks.now c.args.now c.args.front.now c.args.last.items _ None c.requires.closed (sym c.requires.latest ∙ c.in-None.is)
    (ap (λ l. c.args.front.now ++ l) c.in_ok-last.ensures)
