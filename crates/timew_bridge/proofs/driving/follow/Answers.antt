use Rattle.std.proofs.Common.{◌++◌, ap, ◌∙◌}
use Rattle.std.proofs.lemmas.Bool.{le-leb, lt-leb}
use Rattle.timew_bridge.specs.Track.{is_tracked, free_from}
use Rattle.timew_bridge.specs.Known.{opened_with}
use Rattle.uuid.specs.Text.{hyphenated_text, lower}
use Rattle.timew_bridge.proofs.Following.{opens, waits}
use Rattle.timew_bridge.proofs.driving.follow.Goals.{then-from-now+in_ok-opened+in_ok-push, else-from-now}
use Rattle.timew_bridge.proofs.driving.follow.Goals as goal

pub returns : goal.returns
returns c = λ tasks label.
    elim c.if-from-now.branch [
      | then-from-now+in_ok-opened+in_ok-push w ↦
          opens tasks c.args.now c.args.active c.args.front.now c.args.last.items c.is_followed.result
          (c.is_followed.ensures ∙ ap (λ l. is_tracked (hyphenated_text lower c.args.active.uuid) c.args.active.start (c.args.front.now ++ l)) c.deref.ensures.value)
          c.if-is_followed.false c.requires c.in_ok-last.last.items c.in_ok-last.ensures c.free_from-from.result
          (c.free_from-from.ensures ∙ ap (λ at. free_from at c.deref-2.result.now) c.free_from.ensures ∙ ap (λ l. free_from (free_from c.args.active.start c.args.front.now) l) c.deref-2.ensures.value)
          w.in_ok-opened.field-0 c.if-from-now.last.items (le-leb c.free_from-from.result c.args.now w.if-from-now.true)
          (w.in_ok-opened.ensures ∙ ap (λ l. opened_with l c.free_from-from.result c.args.active) label) (ap (λ v. v.items) w.last-is ∙ w.in_ok-push.ensures.items)
      | else-from-now w ↦
          waits tasks c.args.now c.args.active c.args.front.now c.args.last.items c.is_followed.result
          (c.is_followed.ensures ∙ ap (λ l. is_tracked (hyphenated_text lower c.args.active.uuid) c.args.active.start (c.args.front.now ++ l)) c.deref.ensures.value)
          c.if-is_followed.false c.requires c.in_ok-last.last.items c.in_ok-last.ensures c.free_from-from.result
          (c.free_from-from.ensures ∙ ap (λ at. free_from at c.deref-2.result.now) c.free_from.ensures ∙ ap (λ l. free_from (free_from c.args.active.start c.args.front.now) l) c.deref-2.ensures.value)
          c.if-from-now.last.items (lt-leb c.free_from-from.result c.args.now w.if-from-now.false) (ap (λ v. v.items) w.last-is)
    ]
