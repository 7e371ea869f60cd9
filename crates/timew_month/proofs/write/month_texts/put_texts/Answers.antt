use Rattle.std.proofs.Common.{List, [], ◌∷◌, sym, ap, subst, ◌∙◌}
use Rattle.std.proofs.lemmas.List.{map-append}
use Rattle.timew_interval.specs.declared.interval.Interval.{Interval}
use Rattle.timew_month.specs.MonthTexts.{text_of, texts_of}
use Rattle.timew_month.proofs.MonthTexts.{AreTexts, texts_more}
use Rattle.timew_month.proofs.write.month_texts.put_texts.Goals as goal

pub loop-rest-preserved : goal.loop-rest-preserved
loop-rest-preserved c =
    let old = c.loop-rest.texts.items in
    let month = c.in-Ok.first.0 in
    let is = c.in-Ok.ensures in
    subst (λ (l : List Interval). AreTexts (texts_of c.args.texts.now.items) (texts_of c.push.new.self.items) l c.args.rows.now) (sym c.split_at.ensures.back)
    (texts_more (texts_of c.args.texts.now.items) (texts_of old) (texts_of c.push.new.self.items) (text_of month) c.loop-rest.rest.now c.args.rows.now c.in-Ok.first.1 c.loop-rest.invariant
    (ap texts_of c.in_ok-push.ensures.items ∙ map-append text_of old (month ∷ [])) is.some is.inside is.month is.good)
