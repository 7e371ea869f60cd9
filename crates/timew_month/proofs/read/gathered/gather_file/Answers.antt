use Rattle.std.proofs.Common.{arith, ◌≡◌, ◌+◌, ◌++◌, ap, subst, ◌∙◌, List, ℕ, drop, take, length, length-drop, ◌≤◌, ◌-◌}
use Rattle.std.proofs.lemmas.List.{take_all}
use Rattle.timew_month.specs.Month.{lines}
use Rattle.timew_month.specs.Rows.{Found, found_from}
use Rattle.timew_month.specs.Gathered.{AreLines, line_found}
use Rattle.timew_month.proofs.LinesOfFile.{no_more, some_more}
use Rattle.timew_month.proofs.GatheredLines.{found_goes_on, found_ends}
use Rattle.timew_month.proofs.read.gathered.gather_file.Goals as goal

pub returns-then-more-eq0 : goal.returns-then-more-eq0
returns-then-more-eq0 c = λ found was.
    let st = c.loop-tails.invariant.1 found was in
    let name = c.args.file.now.name in
    let last = no_more c.loop-tails.rest.now c.split_at.result.0.now c.split_at.result.1.now c.line_length-size.result c.line_length-size.ensures.value c.split_at.ensures.front c.split_at.ensures.back c.line_length-size.ensures.inside c.if-more-eq0.true in
    subst (λ (l : List Found). AreLines l c.add_line.new.gathered) (found_ends st.0 name c.loop-tails.number c.split_at.result.0.now (lines c.loop-tails.rest.now) (found ++ found_from name 1 (lines c.args.file.now.bytes.items)) last st.2)
    (c.in_ok-add_line.ensures st.0 st.1)

pub loop-tails-preserved : goal.loop-tails-preserved
loop-tails-preserved c =
    let name = c.args.file.now.name in
    let back = c.split_at.result.1.now in
    let shorter : length back ≤ length c.loop-tails.rest.now = omega (arith, ap length c.split_at.ensures.back, length-drop c.line_length-size.result c.loop-tails.rest.now) in
    let cut : take (length back - 1) (drop 1 back) ≡ drop 1 back = take_all (length back - 1) (drop 1 back) (omega (arith, length-drop 1 back)) in
    let more = some_more c.loop-tails.rest.now c.split_at.result.0.now back c.line_length-size.result c.line_length-size.ensures.value c.split_at.ensures.front c.split_at.ensures.back c.line_length-size.ensures.inside c.if-more-eq0.false in (
      omega (arith, shorter, c.if-more-eq0.false, ap length cut, length-drop 1 back, c.loop-tails.invariant.0),
      λ found was.
          let st = c.loop-tails.invariant.1 found was in
          let total = found ++ found_from name 1 (lines c.args.file.now.bytes.items) in (
            st.0 ++ line_found name c.loop-tails.number c.split_at.result.0.now,
            c.in_ok-add_line.ensures st.0 st.1,
            ap (λ (l : List ℕ). (st.0 ++ line_found name c.loop-tails.number c.split_at.result.0.now) ++ found_from name (c.loop-tails.number + 1) (lines l)) cut
                ∙ found_goes_on st.0 name c.loop-tails.number c.split_at.result.0.now (lines c.loop-tails.rest.now) (lines (drop 1 back)) total more st.2,
          ),
    )
