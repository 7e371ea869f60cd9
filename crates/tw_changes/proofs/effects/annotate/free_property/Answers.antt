use Rattle.std.proofs.Common.{◌≡◌, ◌∙◌, ◌+◌, ◌-◌, ap, sym, refl, ℕ, zero, suc, Bool, true, false, cond, is_some, arith}
use Rattle.std.specs.FinMap.{get}
use Rattle.tw_model.specs.Ops.{TaskValue}
use Rattle.tw_changes.specs.Effects.Annotate.{annotation_at, free_second}
use Rattle.tw_changes.proofs.effects.annotate.free_property.Goals as goal
use Rattle.tw_changes.proofs.effects.annotate.free_property.Goals.{then-loop-more-test+else-is_some, else-loop-more-test}

one_on : (left more : ℕ) (task : TaskValue) (second : ℕ) → more ≡ suc left → is_some (get task (annotation_at second)) ≡ true → free_second left task (second + 1) ≡ free_second more task second
one_on left more task second is there =
    sym (ap (λ n. free_second n task second) is ∙ ap (λ b. cond b (free_second left task (second + 1)) second) there)

here : (more : ℕ) (task : TaskValue) (second : ℕ) → is_some (get task (annotation_at second)) ≡ false → free_second more task second ≡ second
here zero task second free = refl
here (suc more) task second free = ap (λ b. cond b (free_second more task (second + 1)) second) free

none_left : (more : ℕ) (task : TaskValue) (second : ℕ) → more ≡ 0 → free_second more task second ≡ second
none_left more task second is = ap (λ n. free_second n task second) is

pub loop-more-init : goal.loop-more-init
loop-more-init c = record {
  name = c.in_ok-name.ensures;
  free = ap (λ n. free_second n c.args.task.now c.args.now.seconds) c.len-more.ensures;
  low = omega arith;
}

pub loop-more-preserved : goal.loop-more-preserved
loop-more-preserved c =
    let there : is_some (get c.args.task.now (annotation_at c.loop-more.second)) ≡ true = grind arith in
    record {
      name = c.in_ok-name-2.ensures;
      free = one_on (c.loop-more.more - 1) c.loop-more.more c.args.task.now c.loop-more.second (omega arith) there ∙ c.loop-more.invariant.free;
      low = omega (arith, c.loop-more.invariant.low);
    }

pub returns : goal.returns
returns c =
    let task = c.args.task.now in
    let free : free_second c.loop-more.more task c.loop-more.second ≡ c.loop-more.second = elim c.loop-more-test.branch [
      | then-loop-more-test+else-is_some w ↦ here c.loop-more.more task c.loop-more.second (grind arith)
      | else-loop-more-test w ↦ none_left c.loop-more.more task c.loop-more.second (omega arith)
    ] in
    c.loop-more.invariant.name ∙ ap annotation_at (sym free ∙ c.loop-more.invariant.free)
