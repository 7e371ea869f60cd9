use Rattle.std.proofs.Common.{◌≡◌, ℕ, Bool, List, [], Option, None, Ok, sym, ap, ◌∙◌}
use Rattle.timew_interval.specs.declared.interval.Interval.{Interval}
use Rattle.timew_interval.specs.Placing.{inserted, placed}
use Rattle.timew_cmd.specs.Numbers.{numbered, without, rows_in}
use Rattle.timew_cmd.specs.Placing.{overlapped, unless_overlapped, place}
use Rattle.timew_cmd.proofs.AllRows.{all_rows}
use Rattle.timew_cmd.proofs.NoOverlap.{placed_free}
use Rattle.timew_cmd.proofs.placing.place_among.Goals as goal

pub returns-in-Some : goal.returns-in-Some
returns-in-Some c =
    let new = c.args.new in
    let rows = c.args.rows.items in
    let those = without [] (numbered rows) in
    ap (λ (b : Bool). place b new [] rows) c.if-adjust.false
    ∙ ap (λ (o : Option ℕ). unless_overlapped o (placed new (rows_in those)))
    (sym (c.in-Some.ensures ∙ ap (λ (l : List Interval). overlapped new (without c.in_ok-none.none.given.now (numbered l))) c.deref.ensures.value ∙ ap (λ (ids : List ℕ). overlapped new (without ids (numbered rows))) c.in_ok-none.ensures))

pub returns : goal.returns
returns c =
    let new = c.args.new in
    let rows = c.args.rows.items in
    let those = without [] (numbered rows) in
    let none : overlapped new those ≡ None =
    sym (c.in_default.ensures ∙ ap (λ (l : List Interval). overlapped new (without c.in_ok-none.none.given.now (numbered l))) c.deref.ensures.value ∙ ap (λ (ids : List ℕ). overlapped new (without ids (numbered rows))) c.in_ok-none.ensures) in
    ap (λ (b : Bool). place b new [] rows) c.if-adjust.false ∙ ap (λ (o : Option ℕ). unless_overlapped o (placed new (rows_in those))) none
    ∙ ap (λ (l : List Interval). Ok l) (placed_free new those none ∙ ap (inserted new) (all_rows rows) ∙ sym c.in_ok-inserted.ensures)
