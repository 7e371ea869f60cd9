use Rattle.std.proofs.Common.{◌≡◌, ◌∙◌, [], true, ap, sym, arith}
use Rattle.std.specs.Prelude.{slice_index_or}
use Rattle.std.specs.Str.{is_utf8}
use Rattle.timew_interval.proofs.RisingTags.{utf8_is}
use Rattle.timew_interval.proofs.RowsReadBack.{utf8_each}
use Rattle.timew_interval.proofs.line.put_tags.Goals as goal
use Rattle.std.proofs.lemmas.Grind.{common_steps}
use borrow.Author.Count.{below_more}

pub loop-n-preserved : goal.loop-n-preserved
loop-n-preserved c = (
  grind (arith, common_steps),
  below_more (λ k. is_utf8 (slice_index_or c.args.tags.now k []) ≡ true) c.loop-n.n c.loop-n.invariant.1 (ap is_utf8 (sym c.at.ensures) ∙ utf8_is c.at.result.now c.at.utf8),
)

pub returns-clause-utf8 : goal.returns-clause-utf8
returns-clause-utf8 c = utf8_each c.args.tags.now (λ k lt. c.loop-n.invariant.1 k (omega (arith, lt)))
