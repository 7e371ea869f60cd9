use Rattle.std.proofs.Common.{rules, ◌≡◌, List, [], ◌∷◌, ◌++◌, Ok, Some, sym, ap, ◌∙◌, arith}
use Rattle.timew_interval.specs.declared.interval.Interval.{Interval}
use Rattle.timew_interval.specs.Placing.{spanning}
use Rattle.timew_cmd.specs.Open.{open_of}
use Rattle.timew_cmd.specs.Commands.Stop.{stopped}
use Rattle.timew_cmd.proofs.PlacedAside.{instead, has_last}
use Rattle.timew_cmd.proofs.commands.stop.stop.Goals as goal

pub returns-clause-stopped : goal.returns-clause-stopped
returns-clause-stopped c =
    let rows = c.args.rows.now in
    let front = c.in-Some.front.now in
    let last = c.in-Some.last.now in
    let done : stopped c.args.word c.args.at (open_of rows) ≡ Ok (front ++ spanning last.start (Some c.args.at) last ∷ []) = search rules in
    done ∙ ap (λ (l : List Interval). Ok l) (sym (instead front rows c.in_ok-ending.field-0.items last c.in-Some.ensures.whole ∙ ap (λ (l : List Interval). front ++ l) c.in_ok-ending.ensures))

pub returns-clause-inside : goal.returns-clause-inside
returns-clause-inside c = omega (arith, has_last c.in-Some.front.now c.args.rows.now c.in-Some.last.now c.in-Some.ensures.whole)
