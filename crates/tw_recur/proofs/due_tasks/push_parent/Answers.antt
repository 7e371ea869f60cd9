use Rattle.std.proofs.Common.{◌≡◌, ◌++◌, ◌∙◌, sym, ap, string_bytes, length, chars}
use Rattle.std.proofs.lemmas.Result.{on_ok_weaker}
use Rattle.tw_recur.specs.Recurrence.{mask_of}
use Rattle.tw_recur.specs.Instances.{mask_change}
use Rattle.tw_recur.specs.Grown.{asked_in, growth_in, making_in}
use Rattle.tw_recur.proofs.Growing.{no_parent, a_parent}
use Rattle.tw_recur.proofs.due_tasks.push_parent.Goals as goal

pub returns-in_default : goal.returns-in_default
returns-in_default c = no_parent (asked_in c.args.asking.now) c.args.parent c.args.task.now (making_in c.args.made.now c.args.parents.now) (sym c.recurrence_of.ensures.value ∙ c.in_default.is)

pub returns : goal.returns
returns c = on_ok_weaker c.push_mask_change.result
    (λ e. a_parent (asked_in c.args.asking.now) c.args.parent c.args.task.now (making_in c.args.made.now c.args.parents.now) c.in-Some.recurrence c.chars_in-from.result (string_bytes c.push_str.new.self) (growth_in c.grow.new.made c.grow.new.mask) c.push_mask_change.new.parents.items
    (sym c.recurrence_of.ensures.value ∙ c.in-Some.is) is_from is_mask c.in_ok-grow.ensures (e ∙ ap (λ m. c.args.parents.now.items ++ mask_change c.args.parent c.args.task.now c.args.asking.now.second m) c.as_str.ensures.value))
    c.push_mask_change.ensures
  where
    is_from : c.chars_in-from.result ≡ length (chars (mask_of c.args.task.now))
    is_from = c.chars_in-from.ensures ∙ ap (λ m. length (chars m)) c.mask_of-old.ensures

    is_mask : string_bytes c.push_str.new.self ≡ mask_of c.args.task.now
    is_mask = c.in_ok-push_str.ensures.bytes ∙ ap (λ b. b ++ c.mask_of-old.result.now) c.new-mask.ensures.bytes ∙ c.mask_of-old.ensures
