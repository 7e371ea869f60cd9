use Rattle.std.proofs.Common.{◌≡◌, List, ℕ, [], ◌∷◌, ◌++◌, length, sym, ap, subst, ◌∙◌, arith, length-append}
use Rattle.timew_interval.specs.declared.interval.Interval.{Interval}
use Rattle.timew_month.specs.declared.months.KnownText.{KnownText}
use Rattle.timew_month.specs.Exact.{IsText}
use Rattle.timew_month.specs.Known.{AreKnown}
use Rattle.timew_month.specs.Month.{month_rows}
use Rattle.timew_month.proofs.LinesOfFile.{read_after}
use Rattle.timew_month.proofs.KnownMonths.{known_still, known_more}
use Rattle.timew_month.proofs.read.rows.add_month.Goals as goal
use Rattle.timew_month.proofs.read.rows.add_month.Goals.{then-is_text+in_ok-note_text, else-is_text}

pub returns-clause-known : goal.returns-clause-known
returns-clause-known c = λ files has had.
    let rows = c.args.rows.items in
    let all = c.in-Ok.month.rows.items in
    let known = c.args.known.now.items in
    elim c.if-is_text.branch [
      | then-is_text+in_ok-note_text w ↦
          let text = c.in-Ok.ensures.text w.if-is_text.true in
          let k : KnownText = record { file = c.args.file; first = c.len-first.result; count = w.saturating_sub.result } in
          let first : k.first ≡ length rows = omega arith in
          let count : k.count ≡ length text.0 = omega (arith, ap length text.1, length-append rows text.0) in
          subst (AreKnown files all) (sym (ap (λ v. v.items) w.known-is ∙ w.in_ok-note_text.ensures))
          (subst (λ (l : List Interval). AreKnown files l (known ++ k ∷ [])) (sym text.1)
          (known_more files rows text.0 known k had first count (λ f at. subst (λ (b : List ℕ). IsText b text.0) (sym (has f at)) text.2)))
      | else-is_text w ↦
          let read = read_after rows (month_rows c.args.bytes.now) all c.in-Ok.ensures.ok in
          subst (AreKnown files all) (sym (ap (λ v. v.items) w.known-is)) (subst (λ (l : List Interval). AreKnown files l known) (sym read.2) (known_still files rows read.0 known had))
    ]
