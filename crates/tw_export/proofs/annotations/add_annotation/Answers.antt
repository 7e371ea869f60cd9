use Rattle.std.proofs.Common.{sym, subst}
use Rattle.tw_export.specs.Owns.{AreAnnotationRanks}
use Rattle.tw_export.proofs.AnnotationRanks.{one_more_annotation, is_inside}
use Rattle.tw_export.proofs.annotations.add_annotation.Goals as goal

pub returns-in_ok-insert-clause-right : goal.returns-in_ok-insert-clause-right
returns-in_ok-insert-clause-right c =
    subst (AreAnnotationRanks c.args.task.now) (sym c.in_ok-insert.ensures.keys) (one_more_annotation c.args.task.now c.args.ranks.now.keys (c.in-Some.at, c.args.n) (is_inside c.args.at c.in-Some.at c.in-Some.is c.requires.at, c.requires.n) c.requires.right)
