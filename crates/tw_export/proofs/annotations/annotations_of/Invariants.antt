use Rattle.std.proofs.Common.{◌≡◌, [], drop}
use Rattle.std.specs.FinMap as map
use Rattle.tw_export.specs.Export.{with_annotations}
use Rattle.tw_export.specs.Owns.{AreAnnotationRanks}
use Rattle.tw_export.proofs.annotations.annotations_of.Given as goal

abbrev pub invariant-loop-n : goal.invariant-loop-n
invariant-loop-n l = record {
  right : AreAnnotationRanks l.task l.ranks.keys;
  left : with_annotations l.ranks.keys l.n (drop l.n (map.keys l.task)) ≡ with_annotations [] 0 (map.keys l.task);
}
