-- The versions of a path in a chain.
use Rattle.std.proofs.Common.{◌≡◌, ℕ, List, [], ◌∷◌, ◌++◌, refl, sym, ap, subst, ◌∙◌}
use Rattle.std.proofs.lemmas.List.{append_assoc}
use Rattle.uuid.specs.Parts.{zero_bytes}
use Rattle.tw_model.specs.declared.SyncOp.{SyncOp}
use Rattle.tw_protocol.specs.Chain.{Version, IsBetween, last_from}
use Rattle.tw_protocol.proofs.Chains.{last_from-append}
use Rattle.tw_path.specs.Fold.{Reads, IsFold}
use Rattle.tw_path.specs.Path.{Reached, Leg, passed, come, MayPass, IsPath, version_on, ops_on, versions_of, ops_of}
use Rattle.tw_path.specs.Path.Leg.{Pull, Push}
use Rattle.tw_path.specs.PathLaws.{PathFolds}
use Rattle.tw_path.proofs.Folds.{fold_on}
use Rattle.tw_path.proofs.Paths.{path_applies}

leg_reads : (r : Reached) (leg : Leg) → MayPass r leg → (vs : List Version) (ops : List SyncOp) → Reads vs ops → Reads (version_on leg ∷ vs) (ops_on leg ++ ops)
leg_reads r (Pull v mine) p vs ops rest = (mine, ops, p.1, rest, refl)
leg_reads r (Push v mine) p vs ops rest = (mine, ops, p.reads, rest, refl)

pub path_reads : (r : Reached) (legs : List Leg) → IsPath r legs → Reads (versions_of legs) (ops_of legs)
path_reads r [] p = refl
path_reads r (leg ∷ legs) p = leg_reads r leg p.0 (versions_of legs) (ops_of legs) (path_reads (passed r leg) legs p.1)

pub come_at : (r : Reached) (legs : List Leg) → (come r legs).at ≡ last_from r.at (versions_of legs)
come_at r [] = refl
come_at r (Pull v ops ∷ legs) = come_at (passed r (Pull v ops)) legs
come_at r (Push v ops ∷ legs) = come_at (passed r (Push v ops)) legs

pub versions-append : (legs more : List Leg) → versions_of (legs ++ more) ≡ versions_of legs ++ versions_of more
versions-append [] more = refl
versions-append (leg ∷ legs) more = ap (λ vs. version_on leg ∷ vs) (versions-append legs more)

-- the first of the versions between
pub between_front : (chain : List Version) (b w : List ℕ) (xs ys : List Version) → IsBetween chain b w (xs ++ ys) → IsBetween chain b (last_from b xs) xs
between_front chain b w xs ys is = record {
  front = is.front;
  back = ys ++ is.back;
  split = is.split ∙ ap (λ zs. zs ++ is.back) (sym (append_assoc is.front xs ys)) ∙ append_assoc (is.front ++ xs) ys is.back;
  from = is.from;
  to = last_from-append zero_bytes is.front xs ∙ ap (λ h. last_from h xs) is.from;
}

pub first_between : (chain : List Version) (r : Reached) (legs more : List Leg) (w : List ℕ) → IsBetween chain r.at w (versions_of (legs ++ more)) → IsBetween chain r.at (come r legs).at (versions_of legs)
first_between chain r legs more w b =
    subst (λ h. IsBetween chain r.at h (versions_of legs)) (sym (come_at r legs))
    (between_front chain r.at w (versions_of legs) (versions_of more) (subst (λ vs. IsBetween chain r.at w vs) (versions-append legs more) b))

-- ---- what the chain makes up to its end

pub path_folds : PathFolds
path_folds chain r legs whole f p b =
    subst (IsFold chain (come r legs).at) (sym (path_applies r legs)) (fold_on chain r.at (come r legs).at r.tasks (versions_of legs) (ops_of legs) whole f b (path_reads r legs p))
