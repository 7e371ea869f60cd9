use Rattle.std.proofs.Common.{◌≡◌, List, cond, get_or, sym, ap, ◌∙◌, arith}
use Rattle.timew_month.specs.declared.read.gathered.Seat.{Seat}
use Rattle.timew_interval.specs.Interval.{goes_past}
use Rattle.timew_month.specs.Gathered.{lesser}
use Rattle.timew_month.proofs.LateRows.{latest_more, late_more}
use Rattle.timew_month.proofs.read.rows.first_late.Goals.{then-goes_past, else-goes_past}
use Rattle.timew_month.proofs.read.rows.first_late.Goals as goal

pub loop-seat-preserved : goal.loop-seat-preserved
loop-seat-preserved c =
    let items = c.args.seats.now.items in
    let k = c.loop-seat.seat-index in
    let x = c.seat-item.result in
    let here : x ≡ get_or items k x = c.seat-item.is ∙ ap (λ (l : List Seat). get_or l k x) c.deref-seat-items.ensures.value in
    let chosen : c.if-goes_past.least ≡ cond (goes_past c.loop-seat.end x.row.start) (lesser c.loop-seat.least x.index) c.loop-seat.least = elim c.if-goes_past.branch [
      | then-goes_past w ↦ w.least-is ∙ w.lesser-least.ensures ∙ sym (ap (λ b. cond b (lesser c.loop-seat.least x.index) c.loop-seat.least) (sym c.goes_past.ensures ∙ w.if-goes_past.true))
      | else-goes_past w ↦ w.least-is ∙ sym (ap (λ b. cond b (lesser c.loop-seat.least x.index) c.loop-seat.least) (sym c.goes_past.ensures ∙ w.if-goes_past.false))
    ] in (
      latest_more items k x c.loop-seat.end c.later_end-end.result (omega arith) here c.later_end-end.ensures c.loop-seat.invariant.0,
      late_more items k x c.loop-seat.end c.loop-seat.least c.if-goes_past.least (omega arith) here c.requires.sorted c.requires.are c.loop-seat.invariant.0 chosen ∙ c.loop-seat.invariant.1,
    )
