use Rattle.std.proofs.Common.{◌≡◌, ◌+◌, ◌++◌, ◌∷◌, [], cond, drop, sym, ap, ◌∙◌, arith, append-nil}
use Rattle.std.specs.FinMap.{entries}
use Rattle.tw_model.specs.Maps.{same_bytes}
use Rattle.tw_model.proofs.Sorted.{entry_at, entries_end}
use Rattle.tw_audit.specs.Differences.{unlike}
use Rattle.tw_audit.proofs.Keys.{unlike_turn}
use Rattle.tw_audit.proofs.names.add_unlike.Goals as goal

pub loop-n-preserved : goal.loop-n-preserved
loop-n-preserved c =
    let m = c.args.task.now in
    let k = c.key-name.result.now in
    let v = c.value.result.now in
    let rest = unlike same_bytes c.args.other.now (drop (c.loop-n.n + 1) (entries m)) in
    let here : drop c.loop-n.n (entries m) ≡ (k, v) ∷ drop (c.loop-n.n + 1) (entries m) = entry_at m c.loop-n.n [] (omega (arith, c.loop-n-test.true, c.len-n-end.ensures)) ∙ (λ i. (sym c.key-name.ensures i, sym c.value.ensures i) ∷ drop (c.loop-n.n + 1) (entries m)) in record {
      left =
          ap (λ ys. ys ++ rest) (c.in_ok-add_unless.ensures ∙ ap (λ b. c.loop-n.names.items ++ cond b [] (k ∷ [])) c.has_value-is_alike.ensures)
          ∙ unlike_turn c.args.other.now c.loop-n.names.items (k, v) (drop (c.loop-n.n + 1) (entries m)) same_bytes
          ∙ ap (λ es. c.loop-n.names.items ++ unlike same_bytes c.args.other.now es) (sym here)
          ∙ c.loop-n.invariant.left;
    }

pub returns : goal.returns
returns c =
    sym (append-nil c.loop-n.names.items)
    ∙ ap (λ es. c.loop-n.names.items ++ unlike same_bytes c.args.other.now es) (sym (entries_end c.args.task.now c.loop-n.n (omega (arith, c.loop-n-test.false, c.len-n-end.ensures))))
    ∙ c.loop-n.invariant.left
