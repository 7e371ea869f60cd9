use Rattle.std.proofs.Common.{arith, Ok, ◌≡◌, ◌+◌, ap, sym, subst, ◌∙◌, List, ℕ, drop, take, length, length-drop, ◌≤◌, ◌-◌}
use Rattle.std.proofs.lemmas.List.{take_all}
use Rattle.std.proofs.lemmas.Bool.{eqb-true, ltb-true}
use Rattle.std.specs.List.{AllByRecursion}
use Rattle.timew_interval.specs.declared.interval.Interval.{Interval}
use Rattle.timew_month.specs.Exact.{IsTextAfter}
use Rattle.timew_interval.specs.Interval.{IsRow}
use Rattle.timew_month.specs.Month.{IsTaken, lines, rows_from, month_rows, with_rows}
use Rattle.timew_month.proofs.ExactMonth.{IsFrontAfter, line_more_after, text_ends_after}
use Rattle.timew_month.proofs.LinesOfFile.{bad_line, all_read, on_it_goes, bad_after}
use Rattle.timew_month.proofs.read.month.read_lines.Goals as goal

pub returns-then-not-branch-clause-err : goal.returns-then-not-branch-clause-err
returns-then-not-branch-clause-err c =
    bad_after c.args.rows.items (month_rows c.args.bytes.now) c.loop-tails.number
    (bad_line c.loop-tails.rest.now c.split_at.result.0.now c.split_at.result.1.now c.line_length-size.result c.line_length-size.ensures.value c.split_at.ensures.front c.split_at.ensures.back c.line_length-size.ensures.inside
    (with_rows c.args.rows.items (month_rows c.args.bytes.now)) c.loop-tails.number c.loop-tails.month.rows.items c.take_line.new.self.rows.items c.loop-tails.invariant.read
    (subst (λ b. IsTaken b c.split_at.result.0.now c.loop-tails.month.rows.items c.take_line.new.self.rows.items) c.if-not-branch.true c.in_ok-take_line.ensures.taken))

pub returns-then-more-eq0-clause-ok : goal.returns-then-more-eq0-clause-ok
returns-then-more-eq0-clause-ok c =
    let same : c.keep_text.new.self.rows.items ≡ c.take_line.new.self.rows.items = ap (λ v. v.items) c.keep_text.ensures.rows in
    subst (λ (l : List Interval). (with_rows c.args.rows.items (month_rows c.args.bytes.now)) ≡ Ok l) (sym same)
    (all_read c.loop-tails.rest.now c.split_at.result.0.now c.split_at.result.1.now c.line_length-size.result c.line_length-size.ensures.value c.split_at.ensures.front c.split_at.ensures.back c.line_length-size.ensures.inside
    (with_rows c.args.rows.items (month_rows c.args.bytes.now)) c.loop-tails.number c.loop-tails.month.rows.items c.take_line.new.self.rows.items c.loop-tails.invariant.read
    (subst (λ b. IsTaken b c.split_at.result.0.now c.loop-tails.month.rows.items c.take_line.new.self.rows.items) c.if-not-branch.false c.in_ok-take_line.ensures.taken) c.if-more-eq0.true)

pub returns-then-more-eq0-clause-text : goal.returns-then-more-eq0-clause-text
returns-then-more-eq0-clause-text c = λ is.
    let same : c.keep_text.new.self.rows.items ≡ c.take_line.new.self.rows.items = ap (λ v. v.items) c.keep_text.ensures.rows in
    let kept = c.keep_text.ensures.text is in
    let adds = c.in_ok-take_line.ensures.text c.if-not-branch.false kept.0 in
    subst (IsTextAfter c.args.rows.items c.args.bytes.now) (sym same)
    (text_ends_after c.args.rows.items c.args.bytes.now c.loop-tails.rest.now c.split_at.result.0.now c.split_at.result.1.now c.line_length-size.result c.loop-tails.month.rows.items c.take_line.new.self.rows.items c.line_length-size.ensures.value
    c.split_at.ensures.front c.split_at.ensures.back c.line_length-size.ensures.inside (c.loop-tails.invariant.text adds.0) adds.1 (eqb-true (length c.split_at.result.0.now) 0 kept.1) (omega (arith, c.if-more-eq0.true)))

pub loop-tails-preserved : goal.loop-tails-preserved
loop-tails-preserved c =
    let back = c.split_at.result.1.now in
    let shorter : length back ≤ length c.loop-tails.rest.now = omega (arith, ap length c.split_at.ensures.back, length-drop c.line_length-size.result c.loop-tails.rest.now) in
    let cut : take (length back - 1) (drop 1 back) ≡ drop 1 back = take_all (length back - 1) (drop 1 back) (omega (arith, length-drop 1 back)) in
    let same : c.keep_text-in-loop-tails.new.self.rows.items ≡ c.take_line.new.self.rows.items = ap (λ v. v.items) c.keep_text-in-loop-tails.ensures.rows in
    record {
      numbers = omega (arith, shorter, c.if-more-eq0.false, ap length cut, length-drop 1 back, c.loop-tails.invariant.numbers);
      read = ap (λ (l : List Interval). with_rows l (rows_from (c.loop-tails.number + 1) (lines (take (length back - 1) (drop 1 back))))) same
          ∙ ap (λ (l : List ℕ). with_rows c.take_line.new.self.rows.items (rows_from (c.loop-tails.number + 1) (lines l))) cut
          ∙ on_it_goes c.loop-tails.rest.now c.split_at.result.0.now back c.line_length-size.result c.line_length-size.ensures.value c.split_at.ensures.front c.split_at.ensures.back c.line_length-size.ensures.inside
          (with_rows c.args.rows.items (month_rows c.args.bytes.now)) c.loop-tails.number c.loop-tails.month.rows.items c.take_line.new.self.rows.items c.loop-tails.invariant.read
          (subst (λ b. IsTaken b c.split_at.result.0.now c.loop-tails.month.rows.items c.take_line.new.self.rows.items) c.if-not-branch.false c.in_ok-take_line.ensures.taken) c.if-more-eq0.false;
      are = λ all. subst (AllByRecursion IsRow) (sym same) (c.take_line.ensures.are (c.loop-tails.invariant.are all));
      text = λ is.
          let kept = c.keep_text-in-loop-tails.ensures.text is in
          let adds = c.in_ok-take_line.ensures.text c.if-not-branch.false kept.0 in
          subst (IsFrontAfter c.args.rows.items c.args.bytes.now (take (length back - 1) (drop 1 back))) (sym same)
          (line_more_after c.args.rows.items c.args.bytes.now c.loop-tails.rest.now c.split_at.result.0.now back c.line_length-size.result c.loop-tails.month.rows.items c.take_line.new.self.rows.items c.line_length-size.ensures.value
          c.split_at.ensures.front c.split_at.ensures.back c.line_length-size.ensures.inside (c.loop-tails.invariant.text adds.0) adds.1 (take (length back - 1) (drop 1 back)) (ltb-true 0 (length c.split_at.result.0.now) kept.1) c.if-more-eq0.false cut);
    }
