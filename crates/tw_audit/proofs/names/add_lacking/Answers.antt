use Rattle.std.proofs.Common.{◌≡◌, ◌+◌, ◌++◌, ◌∷◌, [], cond, drop, get_or, sym, ap, ◌∙◌, arith, append-nil, rules}
use Rattle.std.specs.Prelude.{is_some}
use Rattle.std.specs.FinMap.{get, entries, values}
use Rattle.tw_model.proofs.Sorted.{entry_at, entries_end}
use Rattle.tw_audit.specs.Differences.{lacking}
use Rattle.tw_audit.proofs.Keys.{lacking_turn}
use Rattle.tw_audit.proofs.names.add_lacking.Goals as goal

pub loop-n-preserved : goal.loop-n-preserved
loop-n-preserved c =
    let m = c.args.task.now in
    let k = c.key-name.result.now in
    let v = get_or (values m) c.loop-n.n [] in
    let rest = lacking c.args.other.now (drop (c.loop-n.n + 1) (entries m)) in
    let there : c.is_some-is_there.result ≡ is_some (get c.args.other.now k) = search rules in
    let here : drop c.loop-n.n (entries m) ≡ (k, v) ∷ drop (c.loop-n.n + 1) (entries m) = entry_at m c.loop-n.n [] (omega (arith, c.loop-n-test.true, c.len-n-end.ensures)) ∙ (λ i. (sym c.key-name.ensures i, v) ∷ drop (c.loop-n.n + 1) (entries m)) in record {
      left =
          ap (λ ys. ys ++ rest) (c.in_ok-add_unless.ensures ∙ ap (λ b. c.loop-n.names.items ++ cond b [] (k ∷ [])) there)
          ∙ lacking_turn c.args.other.now c.loop-n.names.items (k, v) (drop (c.loop-n.n + 1) (entries m))
          ∙ ap (λ es. c.loop-n.names.items ++ lacking c.args.other.now es) (sym here)
          ∙ c.loop-n.invariant.left;
    }

pub returns : goal.returns
returns c =
    sym (append-nil c.loop-n.names.items)
    ∙ ap (λ es. c.loop-n.names.items ++ lacking c.args.other.now es) (sym (entries_end c.args.task.now c.loop-n.n (omega (arith, c.loop-n-test.false, c.len-n-end.ensures))))
    ∙ c.loop-n.invariant.left
