use Rattle.std.specs.List.Sorted.{IsBinarySearchResult}
use Rattle.std.specs.Ordering.{nat_cmp}
use Rattle.std.proofs.Common.{List, ℕ, subst, ◌∙◌}
use Rattle.timew_cmd.proofs.NumbersFound.{is_found}
use Rattle.timew_cmd.proofs.chosen.Chosen.has.Goals as goal

pub returns : goal.returns
returns c =
    let chosen = c.args.self.now in
    let position = subst (λ (l : List ℕ). IsBinarySearchResult (λ y. nat_cmp y c.args.id) l c.binary_search.result) c.deref.ensures.value c.binary_search.ensures.position in
    c.is_ok.ensures.value ∙ is_found chosen.rising.items c.args.id c.binary_search.result chosen.rises position ∙ chosen.same c.args.id
