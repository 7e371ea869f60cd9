use Rattle.std.proofs.Common.{List, [], ◌++◌, sym, ap, subst, ◌∙◌, arith}
use Rattle.timew_interval.specs.declared.interval.Interval.{Interval}
use Rattle.timew_cmd.specs.Placing.{place}
use Rattle.timew_cmd.specs.Planned.{Fails}
use Rattle.timew_cmd.proofs.PlacedAside.{behind_front, behind_fails}
use Rattle.timew_cmd.proofs.placing.place_behind.Goals as goal

pub returns-in-Ok-clause-placed : goal.returns-in-Ok-clause-placed
returns-in-Ok-clause-placed c =
    let late = c.in_ok-late.ensures ∙ ap (λ (l : List Interval). l ++ c.args.last.items) c.split_at-2.ensures.back in
    behind_front c.args.adjust c.args.new c.args.rows.now c.split_at.result.0.now c.args.last.items c.in-Ok.next.items c.args.kept c.in_ok-at.at c.split_at.ensures.front (omega (arith, c.in_ok-at.ensures.inside, c.split_at.ensures.front_len))
    c.in_ok-at.ensures.before (ap (place c.args.adjust c.args.new []) (sym late) ∙ c.in-Ok.ensures)

pub returns-in-Err-clause-placed : goal.returns-in-Err-clause-placed
returns-in-Err-clause-placed c =
    let late = c.in_ok-late.ensures ∙ ap (λ (l : List Interval). l ++ c.args.last.items) c.split_at-2.ensures.back in
    behind_fails c.in-Err.error c.args.adjust c.args.new c.args.rows.now c.split_at.result.0.now c.args.last.items c.args.kept c.in_ok-at.at c.split_at.ensures.front
    c.in_ok-at.ensures.before (subst (λ (l : List Interval). Fails c.in-Err.error (place c.args.adjust c.args.new [] l)) late c.in-Err.ensures)
