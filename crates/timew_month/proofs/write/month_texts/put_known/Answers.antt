use Rattle.std.proofs.Common.{◌≡◌, ◌-◌, ◌≤◌, List, [], ◌∷◌, length, sym, ap, subst, ◌∙◌, arith, length-drop}
use Rattle.std.proofs.lemmas.List.{map-append}
use Rattle.timew_interval.specs.declared.interval.Interval.{Interval}
use Rattle.timew_month.specs.Known.{part}
use Rattle.timew_month.specs.MonthTexts.{text_of, texts_of}
use Rattle.timew_month.proofs.Edits.{part_rest}
use Rattle.timew_month.proofs.MonthTexts.{AreTexts, texts_more}
use Rattle.timew_month.proofs.write.month_texts.put_known.Goals as goal

pub loop-rest-preserved : goal.loop-rest-preserved
loop-rest-preserved c =
    let old = c.loop-rest.texts.items in
    let rest = c.loop-rest.rest.now in
    let rows = c.args.months.now.rows in
    let month = c.in-Ok.next.0 in
    let n = c.in-Ok.next.1 in
    let is = c.in-Ok.ensures in
    let so_far = c.loop-rest.invariant in
    subst (λ (l : List Interval). AreTexts (texts_of c.args.texts.now.items) (texts_of c.push.new.self.items) l c.args.rows.now × (length l ≤ c.args.end) × (l ≡ part (c.args.end - length l) (length l) rows)) (sym c.split_at.ensures.back) (
      texts_more (texts_of c.args.texts.now.items) (texts_of old) (texts_of c.push.new.self.items) (text_of month) rest c.args.rows.now n so_far.0 (ap texts_of c.in_ok-push.ensures.items ∙ map-append text_of old (month ∷ [])) is.some is.inside is.month is.good,
      omega (arith, length-drop n rest, so_far.1),
      part_rest rows rest c.args.end n is.inside so_far.1 so_far.2,
    )
