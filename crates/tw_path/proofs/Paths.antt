-- Paths through a chain.
use Rattle.std.proofs.Common.{◌≡◌, ◌+◌, Bool, true, false, cond, List, [], ◌∷◌, ◌++◌, refl, sym, ap, subst, ◌∙◌}
use Rattle.std.proofs.lemmas.List.{append-nil, append_assoc}
use Rattle.tw_model.specs.Ops.{TasksValue, fits, apply, apply_all, FitAll, fit_part}
use Rattle.tw_model.specs.declared.SyncOp.{SyncOp}
use Rattle.tw_model.proofs.Ops.{apply_unfit, fit_part_same, fit_part_fits, fit_part_all, apply_all-append, FitAll-append}
use Rattle.tw_transform.specs.Grid.{grid, Joins}
use Rattle.tw_transform.proofs.Squares.{grid_square}
use Rattle.tw_transform.proofs.Cancel.{grid-append_server, grid_itself}
use Rattle.tw_groups.specs.Groups.{joined}
use Rattle.tw_groups.specs.Cross.{cross}
use Rattle.tw_groups.specs.Cut.{first, rest}
use Rattle.tw_groups.proofs.Grouping.{cross_is_grid, FitAll-back}
use Rattle.tw_groups.proofs.Cutting.{cut_splits}
use Rattle.tw_path.specs.Path.{Reached, Leg, passed, come, IsPush, MayPass, IsPath, is_batch, ops_on, ops_of}
use Rattle.tw_path.specs.Path.Leg.{Pull, Push}
use Rattle.tw_path.specs.PathLaws.{StandsBeside, PathStandsBeside, PathApplies, PathIsPosition, PathCarries, PathsJoin, PathSplits}

-- ---- one version

-- another's version
pulled_stands : (hand : TasksValue) (r : Reached) (v : _) (ops : List SyncOp) → StandsBeside hand r → StandsBeside hand (passed r (Pull v ops))
pulled_stands hand r v ops s =
    let ss : List SyncOp = fit_part r.tasks ops in
    let ls : List SyncOp = joined r.left in
    let j : Joins ss ls (grid ss ls).0 (grid ss ls).1 r.tasks = grid_square ss ls r.tasks (fit_part_fits r.tasks ops) s.fits in
    let is = cross_is_grid ss r.left in
    let there : apply_all r.tasks ss ≡ apply_all r.tasks ops = fit_part_same r.tasks ops in
    record {
      fits = subst (λ (w : TasksValue). FitAll w (joined (cross ss r.left).1)) there (subst (λ zs. FitAll (apply_all r.tasks ss) zs) (sym is.1) j.local_fits);
      carried_fits = FitAll-append hand r.carried (cross ss r.left).0 s.carried_fits
          (subst (λ (w : TasksValue). FitAll w (cross ss r.left).0) (sym s.same) (subst (λ zs. FitAll (apply_all r.tasks ls) zs) (sym is.0) j.server_fits));
      same = apply_all-append hand r.carried (cross ss r.left).0
          ∙ ap (λ (w : TasksValue). apply_all w (cross ss r.left).0) s.same
          ∙ ap (apply_all (apply_all r.tasks ls)) is.0
          ∙ sym j.same
          ∙ ap (apply_all (apply_all r.tasks ss)) (sym is.1)
          ∙ ap (λ (w : TasksValue). apply_all w (joined (cross ss r.left).1)) there;
    }

-- what is left in front of the rest
sent_first : (r : Reached) (v : _) (ops : List SyncOp) → IsPush r v ops → joined r.left ≡ ops ++ joined (rest is_batch r.left)
sent_first r v ops p = cut_splits is_batch r.left ∙ ap (λ zs. zs ++ joined (rest is_batch r.left)) (sym p.sent)

-- one that this sync added
pushed_stands : (hand : TasksValue) (r : Reached) (v : _) (ops : List SyncOp) → IsPush r v ops → StandsBeside hand r → StandsBeside hand (passed r (Push v ops))
pushed_stands hand r v ops p s =
    let e : joined r.left ≡ ops ++ joined (rest is_batch r.left) = sent_first r v ops p in
    record {
      fits = FitAll-back r.tasks ops (joined (rest is_batch r.left)) (subst (λ zs. FitAll r.tasks zs) e s.fits);
      carried_fits = s.carried_fits;
      same = s.same ∙ ap (apply_all r.tasks) e ∙ apply_all-append r.tasks ops (joined (rest is_batch r.left));
    }

leg_stands : (hand : TasksValue) (r : Reached) (leg : Leg) → MayPass r leg → StandsBeside hand r → StandsBeside hand (passed r leg)
leg_stands hand r (Pull v ops) p s = pulled_stands hand r v ops s
leg_stands hand r (Push v ops) p s = pushed_stands hand r v ops p s

pub path_stands_beside : PathStandsBeside
path_stands_beside hand r [] s p = s
path_stands_beside hand r (leg ∷ legs) s p = path_stands_beside hand (passed r leg) legs (leg_stands hand r leg p.0 s) p.1

-- ---- tasks

leg_applies : (r : Reached) (leg : Leg) → (passed r leg).tasks ≡ apply_all r.tasks (ops_on leg)
leg_applies r (Pull v ops) = refl
leg_applies r (Push v ops) = refl

pub path_applies : PathApplies
path_applies r [] = refl
path_applies r (leg ∷ legs) =
    path_applies (passed r leg) legs ∙ ap (λ (w : TasksValue). apply_all w (ops_of legs)) (leg_applies r leg) ∙ sym (apply_all-append r.tasks (ops_on leg) (ops_of legs))

-- ---- positions

-- what the operations of one version leave, and what of them is carried
pub record IsLegOver (r : Reached) (leg : Leg) : Type 0 where
  pub left : joined (passed r leg).left ≡ (grid (fit_part r.tasks (ops_on leg)) (joined r.left)).1
  pub carried : (passed r leg).carried ≡ r.carried ++ (grid (fit_part r.tasks (ops_on leg)) (joined r.left)).0
  pub fits : FitAll (passed r leg).tasks (joined (passed r leg).left)

-- what fits at the front cancels with its copy
itself : (t : TasksValue) (ops more : List SyncOp) → FitAll t (ops ++ more) → grid (fit_part t ops) (ops ++ more) ≡ ([], more)
itself t ops more f = ap (λ ss. grid ss (ops ++ more)) (fit_part_all t ops (front t ops more f)) ∙ grid_itself ops more
  where
    front : (t : TasksValue) (xs ys : List SyncOp) → FitAll t (xs ++ ys) → FitAll t xs
    front t [] ys f = tt
    front t (x ∷ xs) ys f = (f.0, front (apply t x) xs ys f.1)

pub leg_over : (r : Reached) (leg : Leg) → FitAll r.tasks (joined r.left) → MayPass r leg → IsLegOver r leg
leg_over r (Pull v ops) f p =
    let is = cross_is_grid (fit_part r.tasks ops) r.left in
    let alone : StandsBeside (apply_all r.tasks (joined r.left)) (record { at = r.at; tasks = r.tasks; left = r.left; carried = [] }) = record { fits = f; carried_fits = tt; same = refl } in
    record { left = is.1; carried = ap (λ zs. r.carried ++ zs) is.0; fits = (pulled_stands _ _ v ops alone).fits }
leg_over r (Push v ops) f p =
    let e : joined r.left ≡ ops ++ joined (rest is_batch r.left) = sent_first r v ops p in
    let g : FitAll r.tasks (ops ++ joined (rest is_batch r.left)) = subst (λ zs. FitAll r.tasks zs) e f in
    let is : grid (fit_part r.tasks ops) (joined r.left) ≡ ([], joined (rest is_batch r.left)) = ap (grid (fit_part r.tasks ops)) e ∙ itself r.tasks ops (joined (rest is_batch r.left)) g in
    record {
      left = sym (ap (λ (h : List SyncOp × List SyncOp). h.1) is);
      carried = sym (append-nil r.carried) ∙ ap (λ (h : List SyncOp × List SyncOp). r.carried ++ h.0) (sym is);
      fits = FitAll-back r.tasks ops (joined (rest is_batch r.left)) g;
    }

fit_part-append : (t : TasksValue) (xs ys : List SyncOp) → fit_part t (xs ++ ys) ≡ fit_part t xs ++ fit_part (apply_all t xs) ys
fit_part-append t [] ys = refl
fit_part-append t (x ∷ xs) ys = by (fits t x) refl (fit_part-append (apply t x) xs ys) (fit_part-append t xs ys)
  where
    by : (b : Bool) → fits t x ≡ b → fit_part (apply t x) (xs ++ ys) ≡ fit_part (apply t x) xs ++ fit_part (apply_all (apply t x) xs) ys → fit_part t (xs ++ ys) ≡ fit_part t xs ++ fit_part (apply_all t xs) ys → cond b (x ∷ fit_part (apply t x) (xs ++ ys)) (fit_part t (xs ++ ys)) ≡ cond b (x ∷ fit_part (apply t x) xs) (fit_part t xs) ++ fit_part (apply_all (apply t x) xs) ys
    by true e one two = ap (λ zs. x ∷ zs) one
    by false e one two = two ∙ ap (λ (w : TasksValue). fit_part t xs ++ fit_part (apply_all w xs) ys) (sym (apply_unfit t x e))

-- the grid over the operations of more versions
pub grid_on : (t : TasksValue) (ops more ls : List SyncOp) → grid (fit_part t (ops ++ more)) ls
    ≡ (let one = grid (fit_part t ops) ls in let two = grid (fit_part (apply_all t ops) more) one.1 in (one.0 ++ two.0, two.1))
grid_on t ops more ls = ap (λ ss. grid ss ls) (fit_part-append t ops more) ∙ grid-append_server (fit_part t ops) (fit_part (apply_all t ops) more) ls

-- what is left and what is carried, over all versions at once
path_over : (r : Reached) (legs : List Leg) → FitAll r.tasks (joined r.left) → IsPath r legs
    → ((grid (fit_part r.tasks (ops_of legs)) (joined r.left)).1 ≡ joined (come r legs).left) × ((come r legs).carried ≡ r.carried ++ (grid (fit_part r.tasks (ops_of legs)) (joined r.left)).0)
path_over r [] f p = (refl, sym (append-nil r.carried))
path_over r (leg ∷ legs) f p =
    let one : IsLegOver r leg = leg_over r leg f p.0 in
    let next = path_over (passed r leg) legs one.fits p.1 in
    let first = grid (fit_part r.tasks (ops_on leg)) (joined r.left) in
    let whole = grid_on r.tasks (ops_on leg) (ops_of legs) (joined r.left) in
    let again : grid (fit_part (passed r leg).tasks (ops_of legs)) (joined (passed r leg).left) ≡ grid (fit_part (apply_all r.tasks (ops_on leg)) (ops_of legs)) first.1 =
    ap (λ (w : TasksValue). grid (fit_part w (ops_of legs)) (joined (passed r leg).left)) (leg_applies r leg) ∙ ap (grid (fit_part (apply_all r.tasks (ops_on leg)) (ops_of legs))) one.left in (
      ap (λ (h : List SyncOp × List SyncOp). h.1) (whole ∙ ap (λ (h : List SyncOp × List SyncOp). (first.0 ++ h.0, h.1)) (sym again)) ∙ next.0,
      next.1
          ∙ ap (λ (zs : List SyncOp). zs ++ (grid (fit_part (passed r leg).tasks (ops_of legs)) (joined (passed r leg).left)).0) one.carried
          ∙ append_assoc r.carried first.0 (grid (fit_part (passed r leg).tasks (ops_of legs)) (joined (passed r leg).left)).0
          ∙ ap (λ (h : List SyncOp × List SyncOp). r.carried ++ (first.0 ++ h.0)) again
          ∙ ap (λ (h : List SyncOp × List SyncOp). r.carried ++ h.0) (sym whole),
    )

-- what is left fits at the end of a path
pub path_fits : (r : Reached) (legs : List Leg) → FitAll r.tasks (joined r.left) → IsPath r legs → FitAll (come r legs).tasks (joined (come r legs).left)
path_fits r [] f p = f
path_fits r (leg ∷ legs) f p = path_fits (passed r leg) legs (leg_over r leg f p.0).fits p.1

pub path_is_position : PathIsPosition
path_is_position r legs f p = (path_over r legs f p).0

pub path_carries : PathCarries
path_carries r legs f p = (path_over r legs f p).1

-- ---- parts

pub come-append : (r : Reached) (legs more : List Leg) → come r (legs ++ more) ≡ come (come r legs) more
come-append r [] more = refl
come-append r (leg ∷ legs) more = come-append (passed r leg) legs more

path-append : (r : Reached) (legs more : List Leg) → IsPath r legs → IsPath (come r legs) more → IsPath r (legs ++ more)
path-append r [] more p q = q
path-append r (leg ∷ legs) more p q = (p.0, path-append (passed r leg) legs more p.1 q)

pub paths_join : PathsJoin
paths_join r legs more = (come-append r legs more, path-append r legs more)

pub path_splits : PathSplits
path_splits r [] more p = (tt, p)
path_splits r (leg ∷ legs) more p = let rest = path_splits (passed r leg) legs more p.1 in ((p.0, rest.0), rest.1)
