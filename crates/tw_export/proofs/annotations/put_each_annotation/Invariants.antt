use Rattle.std.proofs.Common.{◌≡◌, ◌++◌, flat_map}
use Rattle.tw_export.specs.Export.{annotation_tokens}
use Rattle.tw_export.specs.Owns.{AreAnnotationRanks}
use Rattle.tw_export.proofs.annotations.put_each_annotation.Given as goal

abbrev pub invariant-loop-rank : goal.invariant-loop-rank
invariant-loop-rank l = record {
  right : AreAnnotationRanks l.task l.rank-iterator;
  written : l.writer.tokens ++ flat_map (annotation_tokens l.task) l.rank-iterator ≡ l.initial.writer.tokens ++ flat_map (annotation_tokens l.task) l.ranks.keys;
  before : l.writer.before ≡ l.initial.writer.before;
}
