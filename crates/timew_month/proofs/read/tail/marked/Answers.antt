use Rattle.std.proofs.Common.{List, ℕ, ◌++◌, codes, Option, Some, sym, ap, subst, ◌∙◌}
use Rattle.std.specs.Prelude.{IfSome}
use Rattle.timew_month.specs.Exact.{AreWritten, IsTail}
use Rattle.timew_month.proofs.ExactLine.{marked_is, tail_is}
use Rattle.timew_month.proofs.read.tail.marked.Goals as goal

pub returns-in-Some-clause-value : goal.returns-in-Some-clause-value
returns-in-Some-clause-value c =
    let bytes = c.args.bytes.now in
    let tags = c.in-Some.tags in
    let written : AreWritten tags bytes = subst (λ (o : Option (List (List ℕ))). IfSome o (λ tags. AreWritten tags bytes)) c.in-Some.is c.in_ok-tags.ensures in
    ap (λ (note : List ℕ). let read : Option (List (List ℕ) × List ℕ) = Some (tags, note) in read) c.in_ok-from_str.ensures ∙ sym (marked_is tags bytes written)

pub returns-in-Some-clause-exact : goal.returns-in-Some-clause-exact
returns-in-Some-clause-exact c = λ is.
    let bytes = c.args.bytes.now in
    let tags = c.in-Some.tags in
    let written : AreWritten tags bytes = subst (λ (o : Option (List (List ℕ))). IfSome o (λ tags. AreWritten tags bytes)) c.in-Some.is c.in_ok-tags.ensures in
    subst (λ (note : List ℕ). IsTail tags note (codes " # " ++ bytes)) (sym c.in_ok-from_str.ensures) (tail_is tags bytes written)
