use Rattle.std.proofs.Common.{◌∙◌, ◌-◌, ◌+◌, ◌≡◌, cond, length, Some, None, sym, ap, arith}
use Rattle.std.proofs.lemmas.List.{length-append}
use Rattle.tw_state.proofs.RunsThatFit.{fit_on, fit_stops}
use Rattle.tw_state.proofs.fitting.apply_carried.Goals as goal

pub returns-then-not-branch-clause-fit : goal.returns-then-not-branch-clause-fit
returns-then-not-branch-clause-fit c =
    let all = c.left-all.result in
    let left = c.loop-unread.unread in
    ap (λ k. Some (all - k)) c.left-in-loop-unread.ensures
    ∙ sym (fit_stops (all - length left) c.loop-unread.tasks left c.in_ok-run.run'.items c.read_run.new.self c.in_ok-run.ensures.read (λ n. c.in_ok-apply_run.ensures.fit n ∙ ap (λ b. cond b None (Some n)) c.if-not-branch.true))
    ∙ c.loop-unread.invariant.fit

pub loop-unread-preserved : goal.loop-unread-preserved
loop-unread-preserved c =
    let so_far = c.loop-unread.invariant in
    let left = c.loop-unread.unread in
    let run = c.in_ok-run.run'.items in
    let more = c.read_run.new.self in
    let whole = c.in_ok-run.ensures.read in
    let size : length left ≡ length run + length more = ap length whole ∙ length-append run more in
    let on = fit_on c.left-all.result c.loop-unread.tasks c.apply_run.new.tasks left run more whole so_far.inside (λ n. c.in_ok-apply_run.ensures.fit n ∙ ap (λ b. cond b None (Some n)) c.if-not-branch.false) (c.in_ok-apply_run.ensures.tasks c.if-not-branch.false) in
    record { inside = omega (arith, size, so_far.inside); fit = on.0 ∙ so_far.fit; left = on.1 ∙ so_far.left }
