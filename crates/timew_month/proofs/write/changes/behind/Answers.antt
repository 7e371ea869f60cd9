use Rattle.std.proofs.Common.{List, ℕ, sym, ap, ◌∙◌}
use Rattle.timew_month.specs.Line.{after}
use Rattle.timew_month.proofs.ChangesByName.{both_behind}
use Rattle.timew_month.proofs.write.changes.behind.Goals as goal

pub returns : goal.returns
returns c =
    let text = c.args.text.now in
    both_behind (λ b. b.now) text.known.now text.new.items c.args.bytes.now c.in_ok-rest.rest.now c.after-2.result (sym c.in_ok-rest.ensures) (c.after-2.ensures ∙ ap (λ (l : List ℕ). after l c.in_ok-rest.rest.now) c.deref.ensures.value)
