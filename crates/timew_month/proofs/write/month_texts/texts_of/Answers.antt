use Rattle.std.proofs.Common.{◌≡◌, ◌+◌, List, [], ◌++◌, take, drop, sym, ap, subst, ◌∙◌}
use Rattle.std.proofs.lemmas.List.{drop-drop}
use Rattle.timew_interval.specs.declared.interval.Interval.{Interval}
use Rattle.timew_month.specs.declared.write.month_texts.MonthText.{MonthText}
use Rattle.timew_interval.specs.Edit.{edited}
use Rattle.timew_interval.specs.Interval.{AreRows}
use Rattle.timew_month.specs.MonthTexts.{texts_of, AddTexts}
use Rattle.timew_month.proofs.Edits.{are_front, are_back}
use Rattle.timew_month.proofs.KnownMonths.{are_take}
use Rattle.timew_interval.proofs.RowsByIndex.{are_drop}
use Rattle.timew_month.proofs.MonthTexts.{texts_joined}
use Rattle.timew_month.proofs.write.month_texts.texts_of.Goals as goal

pub put_known-requires-clause-are : goal.put_known-requires-clause-are
put_known-requires-clause-are c =
    let at = c.args.edit.now.at in
    subst AreRows (sym (c.split_at.ensures.front ∙ ap (take at) c.as_slice-rows.ensures.value)) (are_take at c.args.months.now.rows c.as_slice-rows.ensures.are)

pub put_texts-requires : goal.put_texts-requires
put_texts-requires c =
    let e = c.args.edit.now in
    let rows = c.args.months.now.rows in
    subst AreRows (sym c.deref.ensures.value) (are_front e.rows.items (drop (e.at + e.count) rows) (are_back (take e.at rows) (e.rows.items ++ drop (e.at + e.count) rows) c.requires.are))

pub put_known-requires-2-clause-are : goal.put_known-requires-2-clause-are
put_known-requires-2-clause-are c =
    let e = c.args.edit.now in
    let rows = c.args.months.now.rows in
    subst AreRows (sym (c.split_at-2.ensures.back ∙ ap (drop e.count) (c.split_at.ensures.back ∙ ap (drop e.at) c.as_slice-rows.ensures.value)))
    (are_drop e.count (drop e.at rows) (are_drop e.at rows c.as_slice-rows.ensures.are))

pub returns : goal.returns
returns c =
    let e = c.args.edit.now in
    let rows = c.args.months.now.rows in
    let front = c.split_at.result.0.now in
    let new = c.deref.result.now in
    let back = c.split_at-2.result.1.now in
    let first = texts_of c.new-texts.result.items in
    let one = texts_of c.put_known.new.texts.items in
    let two = texts_of c.put_texts.new.texts.items in
    let last = texts_of c.put_known-2.new.texts.items in
    let is : front ++ (new ++ back) ≡ edited e rows =
    ap (λ (l : List Interval). l ++ (new ++ back)) (c.split_at.ensures.front ∙ ap (take e.at) c.as_slice-rows.ensures.value)
    ∙ ap (λ (l : List Interval). take e.at rows ++ (l ++ back)) c.deref.ensures.value
    ∙ ap (λ (l : List Interval). take e.at rows ++ (e.rows.items ++ l)) (c.split_at-2.ensures.back ∙ ap (drop e.count) (c.split_at.ensures.back ∙ ap (drop e.at) c.as_slice-rows.ensures.value) ∙ drop-drop e.count e.at rows) in
    subst (λ (l : List Interval). AddTexts [] last l) is
    (subst (λ (l : List MonthText). AddTexts (texts_of l) last (front ++ (new ++ back))) c.new-texts.ensures.items
    (texts_joined first one last front (new ++ back) c.in_ok-put_known.ensures (texts_joined one two last new back c.in_ok-put_texts.ensures c.in_ok-put_known-2.ensures)))
