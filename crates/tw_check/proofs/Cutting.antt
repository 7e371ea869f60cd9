-- A file that is cut again and again.
use Rattle.std.proofs.Common.{◌≡◌, ◌≤◌, ◌∙◌, ℕ, zero, suc, List, take, sym, subst, refl}
use Rattle.std.proofs.lemmas.List.{take-take}
use Rattle.tw_check.specs.declared.kind.Kind.{Kind}
use Rattle.tw_check.specs.Kinds.{IsBadIn}
use Rattle.tw_check.specs.Rescue.{Cuts}

-- one cut more
pub cut_again : (kind : Kind) (n : ℕ) (file front : List ℕ) (offset : ℕ) → Cuts kind n file front → IsBadIn kind front offset → Cuts kind (suc n) file (take offset front)
cut_again kind zero file front offset same bad = (offset, subst (λ f. IsBadIn kind f offset) same bad, λ i. take offset (same i))
cut_again kind (suc n) file front offset cuts bad = (cuts.0, cuts.1, cut_again kind n (take cuts.0 file) front offset cuts.2 bad)

-- a file that is cut so often, up to a length
pub record IsCutTo (kind : Kind) (file : List ℕ) (end : ℕ) : Type 0 where
  pub times : ℕ
  pub cuts : Cuts kind times file (take end file)

pub cut_at : (kind : Kind) (file : List ℕ) (end offset : ℕ) → IsCutTo kind file end → offset ≤ end → IsBadIn kind (take end file) offset → IsCutTo kind file offset
cut_at kind file end offset cut le bad = record {
  times = suc cut.times;
  cuts = subst (Cuts kind (suc cut.times) file) (take-take offset end file le) (cut_again kind cut.times file (take end file) offset cut.cuts bad);
}
