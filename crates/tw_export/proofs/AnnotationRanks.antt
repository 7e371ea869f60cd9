-- Ranks of annotations.
use Rattle.std.proofs.Common.{◌≡◌, ◌<◌, ℕ, List, [], ◌∷◌, Option, None, Some, IfSome, sym, ap, arith}
use Rattle.std.specs.declared.cmp.Ordering.{Ordering}
use Rattle.std.specs.declared.cmp.Ordering.TheVariants.{Less, Equal, Greater}
use Rattle.std.specs.Ordering.{match_ordering}
use Rattle.std.specs.BTreeSet.{insert_key}
use Rattle.tw_model.specs.Ops.{TaskValue}
use Rattle.tw_world.specs.declared.moment.TheConstants.{MOMENT_LIMIT}
use Rattle.tw_export.specs.Export.{AnnotationRank, annotation_cmp}
use Rattle.tw_export.specs.Owns.{IsAnnotationRank, AreAnnotationRanks}

pub is_inside : (o : Option ℕ) (at : ℕ) → o ≡ Some at → IfSome o (λ n. n < MOMENT_LIMIT) → at < MOMENT_LIMIT
is_inside None at e h = absurd (cc)
is_inside (Some n) at e h = let same : at ≡ n = inside e in omega (arith, same, h)
  where
    pick : Option ℕ → ℕ
    pick None = n
    pick (Some k) = k

    inside : Some n ≡ Some at → at ≡ n
    inside p = sym (ap pick p)

module _ (task : TaskValue) where
  put_in : (o : Ordering) (r x : AnnotationRank) (rs more : List AnnotationRank) → IsAnnotationRank task r → IsAnnotationRank task x → AreAnnotationRanks task rs → AreAnnotationRanks task more → AreAnnotationRanks task (match_ordering o (r ∷ x ∷ rs) (x ∷ rs) (x ∷ more))
  put_in Less r x rs more new here all rest = (new, (here, all))
  put_in Equal r x rs more new here all rest = (here, all)
  put_in Greater r x rs more new here all rest = (here, rest)

  pub one_more_annotation : (rs : List AnnotationRank) (r : AnnotationRank) → IsAnnotationRank task r → AreAnnotationRanks task rs → AreAnnotationRanks task (insert_key annotation_cmp rs r)
  one_more_annotation [] r new all = (new, tt)
  one_more_annotation (x ∷ rs) r new all = put_in (annotation_cmp r x) r x rs (insert_key annotation_cmp rs r) new all.0 all.1 (one_more_annotation rs r new all.1)
