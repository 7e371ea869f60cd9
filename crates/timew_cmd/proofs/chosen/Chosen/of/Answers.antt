use Rattle.std.specs.Prelude.{◌==◌}
use Rattle.std.proofs.Common.{List, ℕ, sym, ap, ◌∙◌}
use Rattle.std.proofs.lemmas.List.Sorted.{IsNonDecreasingBy-from_sort, list_any-IsPermutation}
use Rattle.timew_cmd.specs.Numbers.{is_among}
use Rattle.timew_cmd.proofs.chosen.Chosen.of.Goals as goal

pub invariant_of-chosen : goal.invariant_of-chosen
invariant_of-chosen c = record {
  rises = IsNonDecreasingBy-from_sort (λ (n : ℕ). n) c.sort_unstable.new.self.items c.sort_unstable.ensures.sorted;
  same = λ id. sym (list_any-IsPermutation (λ n. n == id) c.in_ok-rising.rising.items c.sort_unstable.new.self.items c.sort_unstable.ensures.permutation) ∙ ap (λ (l : List ℕ). is_among l id) (c.in_ok-rising.ensures.items_if_clones_equal (λ x y same. same));
}
