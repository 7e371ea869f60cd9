use Rattle.std.proofs.Common.{◌≡◌, ◌∷◌, ◌++◌, ℕ, List, [], Option, length, ap, sym, subst, ◌∙◌, arith}
use Rattle.std.specs.Prelude.{is_some}
use Rattle.timew_interval.specs.declared.interval.Interval.{Interval}
use Rattle.timew_month.specs.declared.read.gathered.Gathered.{Gathered}
use Rattle.timew_month.specs.declared.read.gathered.Spot.{Spot}
use Rattle.timew_month.specs.Rows.{Found, seat}
use Rattle.timew_month.specs.Gathered.{AreLines, line_found, seats_of}
use Rattle.timew_month.proofs.GatheredLines.{lines_more, lines_none, line_is, place_is}
use Rattle.timew_month.proofs.read.gathered.add_line.Goals as goal

pub returns : goal.returns
returns c = λ found was.
    let row = c.in_ok-row.row in
    let new : Gathered = record { spots = c.push.new.self; seats = c.add_row.new.seats } in
    let f : Found = record { file = c.args.file.now; line = c.args.line; row = row } in
    let spot : Spot = record { file = c.in_ok-file.file; line = c.args.line; is_row = c.is_some-is_row.result } in
    let so_many : c.len-index.result ≡ length c.args.gathered.now.spots.items = omega (arith, c.args.gathered.now.spots.ok.0) in
    let one : line_found c.args.file.now c.args.line c.args.bytes.now ≡ f ∷ [] =
    line_is c.args.file.now c.args.line c.args.bytes.now (λ none. omega (arith, c.if-bytes-eq0.false, none)) ∙ ap (λ (o : Option Interval). (let g : Found = record { file = c.args.file.now; line = c.args.line; row = o } in g ∷ [])) (sym c.in_ok-row.ensures.row) in
    subst (λ (l : List Found). AreLines (found ++ l) new) (sym one)
    (lines_more found c.args.gathered.now new spot f was c.in_ok-row.ensures.is (place_is spot.file f.file c.args.line spot.is_row (is_some row) c.in_ok-file.ensures c.is_some-is_row.ensures) c.in_ok-push.ensures.items
    (c.in_ok-add_row.ensures ∙ ap (λ (n : ℕ). seats_of c.args.gathered.now.seats.items ++ seat n row []) so_many))

pub returns-then-bytes-eq0 : goal.returns-then-bytes-eq0
returns-then-bytes-eq0 c = λ found was. lines_none found c.args.file.now c.args.line c.args.bytes.now c.args.gathered.now c.if-bytes-eq0.true was
