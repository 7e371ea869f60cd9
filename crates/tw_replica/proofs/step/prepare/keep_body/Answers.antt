use Rattle.std.proofs.Common.{◌∙◌, ◌++◌, List, ℕ, length, sym, ap, subst, ◌<◌, ◌^◌}
use Rattle.tw_state.specs.Groups.{group_in}
use Rattle.tw_numbers.proofs.Basics.{on_ok_map}
use Rattle.tw_replica.proofs.step.prepare.keep_body.Goals as goal

pub keep-requires : goal.keep-requires
keep-requires c =
    let short = subst (λ (b : List ℕ). length b < 2 ^ 32) c.deref.ensures.value c.in_ok-copy.ensures.short in
    c.requires short ∙ ap (λ (b : List ℕ). length (group_in b)) (sym (c.in_ok-copy.ensures.copy ∙ c.deref.ensures.value))

pub returns-clause-kept : goal.returns-clause-kept
returns-clause-kept c = on_ok_map c.keep.result c.keep.ensures.ok (λ e. e ∙ ap (λ (b : List ℕ). c.args.pending.now ++ group_in b) (c.in_ok-copy.ensures.copy ∙ c.deref.ensures.value))
