use Rattle.std.proofs.Common.{◌≡◌, ◌∙◌, ap, sym, subst}
use Rattle.std.specs.Prelude.{set}
use lib.Utf8.{scalars}
use Rattle.std.specs.Option.{option_copied}
use Rattle.std.specs.BTreeMap.{insert_entry}
use Rattle.tw_model.specs.Maps.{bytes_cmp}
use Rattle.tw_changes.specs.Marks.{code_of, mark_one, AreHeld}
use Rattle.tw_changes.proofs.MarkedTasks.{Held, not_there, one_more}
use Rattle.tw_changes.proofs.marks.mark_one.Goals as goal

pub returns-in_default : goal.returns-in_default
returns-in_default c = λ marked held.
    not_there c.args.tasks.now marked c.args.held.now.entries c.args.mark.now held (sym c.get.ensures ∙ ap option_copied c.in_default.is)

pub returns : goal.returns
returns c = λ marked held.
    let tasks = c.args.tasks.now in
    let mark = c.args.mark.now in
    let es = c.args.held.now.entries in
    let made : c.insert-2.new.self.entries ≡ insert_entry bytes_cmp (insert_entry bytes_cmp es mark.parent c.new.result) mark.parent c.put_sign.new.signs =
    c.in_ok-insert.ensures.entries ∙ ap (λ l. insert_entry bytes_cmp l mark.parent c.put_sign.new.signs) c.in_ok-there.ensures.entries in
    subst (λ (l : Held). AreHeld tasks (mark_one tasks marked mark) l) (sym made)
    (one_more tasks marked es mark held c.in-Some.task.now c.new.result c.put_sign.new.signs c.in_ok-there.there
    (sym c.get.ensures ∙ ap option_copied c.in-Some.is)
    (sym c.in_ok-there.ensures.old)
    (λ none. ap (λ l. scalars l) (sym c.in_ok-signs.ensures.all) ∙ c.in_ok-signs.ensures.scalars none)
    (c.put_sign.ensures ∙ ap (λ l. set l mark.index (code_of mark.sign)) c.in_ok-signs.ensures.all))
