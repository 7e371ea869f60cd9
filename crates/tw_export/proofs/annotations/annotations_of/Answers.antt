use Rattle.std.proofs.Common.{◌≡◌, ◌+◌, [], drop, get_or, suc, sym, ap, ◌∙◌, arith}
use Rattle.std.specs.FinMap.{keys}
use Rattle.tw_model.proofs.Sorted.{key_at, keys_end}
use Rattle.tw_urgency.specs.Stored.{annotated}
use Rattle.tw_export.specs.Export.{with_annotation, with_annotations}
use Rattle.tw_export.proofs.annotations.annotations_of.Goals as goal

pub loop-n-preserved : goal.loop-n-preserved
loop-n-preserved c =
    let rest = drop (c.loop-n.n + 1) (keys c.args.task.now) in record {
      right = c.in_ok-add_annotation.ensures.right;
      left =
          let next : c.loop-n.n + 1 ≡ suc c.loop-n.n = omega arith in
          ap (λ ranks. with_annotations ranks (c.loop-n.n + 1) rest) (c.in_ok-add_annotation.ensures.value ∙ ap (with_annotation c.loop-n.ranks.keys c.loop-n.n) (c.annotated.ensures.value ∙ ap annotated c.key.ensures))
          ∙ ap (λ n. with_annotations (with_annotation c.loop-n.ranks.keys c.loop-n.n (annotated (get_or (keys c.args.task.now) c.loop-n.n []))) n rest) next
          ∙ ap (with_annotations c.loop-n.ranks.keys c.loop-n.n) (sym (key_at c.args.task.now c.loop-n.n (omega (arith, c.loop-n-test.true, c.len-n-end.ensures))))
          ∙ c.loop-n.invariant.left;
    }

pub returns-clause-value : goal.returns-clause-value
returns-clause-value c = ap (with_annotations c.loop-n.ranks.keys c.loop-n.n) (sym (keys_end c.args.task.now c.loop-n.n (omega (arith, c.loop-n-test.false, c.len-n-end.ensures)))) ∙ c.loop-n.invariant.left
