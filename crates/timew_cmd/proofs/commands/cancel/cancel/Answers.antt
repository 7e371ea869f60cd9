use Rattle.std.proofs.Common.{rules, ◌≡◌, List, ◌++◌, Ok, sym, ap, ◌∙◌, arith, append-nil}
use Rattle.timew_interval.specs.declared.interval.Interval.{Interval}
use Rattle.timew_cmd.specs.Open.{open_of}
use Rattle.timew_cmd.specs.Commands.Cancel.{cancelled}
use Rattle.timew_cmd.proofs.PlacedAside.{instead, has_last}
use Rattle.timew_cmd.proofs.commands.cancel.cancel.Goals as goal

pub returns-in-Some-clause-cancelled : goal.returns-in-Some-clause-cancelled
returns-in-Some-clause-cancelled c =
    let rows = c.args.rows.now in
    let front = c.in-Some.front.now in
    let done : cancelled (open_of rows) ≡ Ok front = search rules in
    done ∙ ap (λ (l : List Interval). Ok l) (sym (instead front rows c.new.result.items c.in-Some.field-0-1.now c.in-Some.ensures.whole ∙ ap (λ (l : List Interval). front ++ l) c.new.ensures.items ∙ append-nil front))

pub returns-in-Some-clause-inside : goal.returns-in-Some-clause-inside
returns-in-Some-clause-inside c = omega (arith, has_last c.in-Some.front.now c.args.rows.now c.in-Some.field-0-1.now c.in-Some.ensures.whole)
