-- What is left of operations as versions pass.
use Rattle.std.proofs.Common.{◌≡◌, ◌∙◌, ◌⊎◌, inl, inr, refl, sym, ap, subst, Bool, true, false, cond, List, [], ◌∷◌, ◌++◌}
use Rattle.std.specs.List.{AllByRecursion}
use Rattle.tw_model.specs.Ops.{fit_part}
use Rattle.tw_model.specs.declared.SyncOp.{SyncOp}
use Rattle.tw_protocol.specs.Chain.{Version}
use Rattle.tw_segment.specs.Segment.{IsSegment}
use Rattle.tw_transform.specs.Grid.{put_if, carry, grid}
use Rattle.tw_transform.specs.Table.{table}
use Rattle.tw_groups.specs.Groups.{Groups, joined}
use Rattle.tw_groups.specs.Cross.{cross}
use Rattle.tw_groups.specs.Cut.{put_group, first, rest, IsFirst, IsRowOfGroups, IsPartOfGroup}
use Rattle.tw_groups.proofs.Cutting.{cut_is_first}
use Rattle.tw_state.specs.State.{State}
use Rattle.tw_path.specs.Fold.{IsFold}
use Rattle.tw_path.specs.Path.{Reached, Leg, passed, come, MayPass, IsPath, is_batch, version_on, versions_of}
use Rattle.tw_path.specs.Path.Leg.{Pull, Push}
use Rattle.tw_path.proofs.Lengths.{batch_is_limit}
use Rattle.tw_cli.specs.Meeting.{MeetsOne, MeetsInGroup, MeetsIn}
use Rattle.tw_cli.specs.Surviving.{IsIn, IsInVersion, IsPassed, IsGone, AreLeft}

-- ---- lists

pub in_left : {X : Type 0} (xs ys : List X) (x : X) → IsIn xs x → IsIn (xs ++ ys) x
in_left [] ys x is = absurd is
in_left (y ∷ xs) ys x (inl same) = inl same
in_left (y ∷ xs) ys x (inr later) = inr (in_left xs ys x later)

pub in_right : {X : Type 0} (xs ys : List X) (x : X) → IsIn ys x → IsIn (xs ++ ys) x
in_right [] ys x is = is
in_right (y ∷ xs) ys x is = inr (in_right xs ys x is)

in_either : {X : Type 0} (xs ys : List X) (x : X) → IsIn (xs ++ ys) x → IsIn xs x ⊎ IsIn ys x
in_either [] ys x is = inr is
in_either (y ∷ xs) ys x (inl same) = inl (inl same)
in_either {X = X} (y ∷ xs) ys x (inr later) = by (in_either xs ys x later)
  where
    by : IsIn xs x ⊎ IsIn ys x → IsIn (y ∷ xs) x ⊎ IsIn ys x
    by (inl is) = inl (inr is)
    by (inr is) = inr is

pub all_of : {X : Type 0} (P : X → Type 0) (xs : List X) → ((x : X) → IsIn xs x → P x) → AllByRecursion P xs
all_of P [] f = tt
all_of P (x ∷ xs) f = (f x (inl refl), all_of P xs (λ y is. f y (inr is)))

-- ---- what is left

pub left_all : (gone : SyncOp → Type 0) (ops : List SyncOp) → AreLeft gone ops ops
left_all gone [] = refl
left_all gone (op ∷ ops) = inl (ops, refl, left_all gone ops)

all_gone : (gone : SyncOp → Type 0) (ops : List SyncOp) → AllByRecursion gone ops → AreLeft gone ops []
all_gone gone [] all = refl
all_gone gone (op ∷ ops) all = inr (all.0, all_gone gone ops all.1)

first_gone : (gone : SyncOp → Type 0) (sent others : List SyncOp) → AllByRecursion gone sent → AreLeft gone (sent ++ others) others
first_gone gone [] others all = left_all gone others
first_gone gone (op ∷ sent) others all = inr (all.0, first_gone gone sent others all.1)

-- what is left of what is left
pub left_then : (F G H : SyncOp → Type 0) → ((op : SyncOp) → F op → H op) → ((op : SyncOp) → G op → H op) → (ops mid left : List SyncOp) → AreLeft F ops mid → AreLeft G mid left → AreLeft H ops left
left_then F G H f g [] mid left a b = subst (λ (m : List SyncOp). AreLeft G m left) a b
left_then F G H f g (op ∷ ops) mid left (inr k) b = inr (f op k.0, left_then F G H f g ops mid left k.1 b)
left_then F G H f g (op ∷ ops) mid left (inl k) b = by (subst (λ (m : List SyncOp). AreLeft G m left) k.1 b) (λ z c. left_then F G H f g ops k.0 z k.2 c)
  where
    by : AreLeft G (op ∷ k.0) left → ((z : List SyncOp) → AreLeft G k.0 z → AreLeft H ops z) → AreLeft H (op ∷ ops) left
    by (inl j) more = inl (j.0, j.1, more j.0 j.2)
    by (inr j) more = inr (g op j.0, more left j.1)

again : (gone : SyncOp → Type 0) (ops mid left : List SyncOp) → AreLeft gone ops mid → AreLeft gone mid left → AreLeft gone ops left
again gone ops mid left a b = left_then gone gone gone (λ op is. is) (λ op is. is) ops mid left a b

-- ---- a version crosses what is left

-- an operation goes over others: those that it meets are gone, if they are not kept beside it
module _ (gone : SyncOp → Type 0) where
  carried_left : (s : SyncOp) (ls : List SyncOp) → ((l : SyncOp) → MeetsOne s ls l → (table s l).local ≡ false → gone l) → AreLeft gone ls (carry s ls).1
  carried_left s [] f = refl
  carried_left s (l ∷ ls) f = by (table s l).server (table s l).local refl refl (λ kept. carried_left s ls (λ k met lost. f k (inr (kept, met)) lost))
    where
      others : (server : Bool) → (table s l).server ≡ server → ((table s l).server ≡ true → AreLeft gone ls (carry s ls).1) → AreLeft gone ls (cond {A = Bool × List SyncOp} server (carry s ls) (false, ls)).1
      others true kept more = more kept
      others false kept more = left_all gone ls

      by : (server local : Bool) → (table s l).server ≡ server → (table s l).local ≡ local → ((table s l).server ≡ true → AreLeft gone ls (carry s ls).1)
          → AreLeft gone (l ∷ ls) (put_if local l (cond {A = Bool × List SyncOp} server (carry s ls) (false, ls)).1)
      by server true kept e more = inl ((cond {A = Bool × List SyncOp} server (carry s ls) (false, ls)).1, refl, others server kept more)
      by server false kept e more = inr (f l (inl refl) e, others server kept more)

  grid_left : (ss ls : List SyncOp) → ((s l : SyncOp) → MeetsInGroup ss ls s l → (table s l).local ≡ false → gone l) → AreLeft gone ls (grid ss ls).1
  grid_left [] ls f = left_all gone ls
  grid_left (s ∷ ss) ls f =
      again gone ls (carry s ls).1 (grid ss (carry s ls).1).1 (carried_left s ls (λ l met lost. f s l (inl (refl, met)) lost)) (grid_left ss (carry s ls).1 (λ t l met lost. f t l (inr met) lost))

-- a place that was passed, whose tasks are the chain folded to it
pub record IsThere (old : State) (begin chain : List Version) (place : Reached) : Type 0 where
  pub passed : IsPassed old begin chain place
  pub folded : IsFold chain place.at place.tasks

module _ (old : State) (begin chain versions : List Version) where
  -- what is left of operations is one of the groups, unless nothing is left
  pub record LeftIn (ops : List SyncOp) (gs : Groups) : Type 0 where
    pub left : List SyncOp
    pub are : AreLeft (IsGone old begin chain versions) ops left
    pub among : (left ≡ []) ⊎ IsIn gs left

  one_more : (ops g : List SyncOp) (gs : Groups) → LeftIn ops gs → LeftIn ops (g ∷ gs)
  one_more ops g gs l = record { left = l.left; are = l.are; among = by l.among }
    where
      by : (l.left ≡ []) ⊎ IsIn gs l.left → (l.left ≡ []) ⊎ IsIn (g ∷ gs) l.left
      by (inl none) = inl none
      by (inr is) = inr (inr is)

  crossed : (ss : List SyncOp) (gs : Groups) (mine : List SyncOp) → ((s l : SyncOp) → MeetsIn ss gs s l → (table s l).local ≡ false → IsGone old begin chain versions l) → IsIn gs mine → LeftIn mine (cross ss gs).1
  crossed ss [] mine f is = absurd is
  crossed ss (g ∷ gs) mine f (inl same) = record {
    left = (grid ss mine).1;
    are = grid_left (IsGone old begin chain versions) ss mine (λ s l met lost. f s l (inl (subst (λ (ls : List SyncOp). MeetsInGroup ss ls s l) (sym same) met)) lost);
    among = inr (inl (ap (λ (ls : List SyncOp). (grid ss ls).1) same));
  }
  crossed ss (g ∷ gs) mine f (inr later) = one_more mine (grid ss g).1 (cross (grid ss g).0 gs).1 (crossed (grid ss g).0 gs mine (λ s l met lost. f s l (inr met) lost) later)

  -- ---- a version is pushed

  -- the operations of a group are among those of all groups
  in_joined : (gs : Groups) (g : List SyncOp) (op : SyncOp) → IsIn gs g → IsIn g op → IsIn (joined gs) op
  in_joined [] g op is holds = absurd is
  in_joined (h ∷ gs) g op (inl same) holds = in_left h (joined gs) op (subst (λ (k : List SyncOp). IsIn k op) (sym same) holds)
  in_joined (h ∷ gs) g op (inr later) holds = in_right h (joined gs) op (in_joined gs g op later holds)

  pub nothing_in : (gs : Groups) (g : List SyncOp) → joined gs ≡ [] → IsIn gs g → g ≡ []
  nothing_in gs [] none is = refl
  nothing_in gs (op ∷ g) none is = absurd (subst (λ (ls : List SyncOp). IsIn ls op) none (in_joined gs (op ∷ g) op is (inl refl)))

  in_put : (others : List SyncOp) (more : Groups) (g : List SyncOp) → IsIn more g → IsIn (put_group others more) g
  in_put [] more g is = is
  in_put (op ∷ others) more g is = inr is

  rest_in : (others : List SyncOp) (more : Groups) → (others ≡ []) ⊎ IsIn (put_group others more) others
  rest_in [] more = inl refl
  rest_in (op ∷ others) more = inr (inl refl)

  pub stays_in : (gs : Groups) (mine : List SyncOp) → (mine ≡ []) ⊎ IsIn gs mine → LeftIn mine gs
  stays_in gs mine at = record { left = mine; are = left_all (IsGone old begin chain versions) mine; among = at }

  -- the operations of the version
  module _ (sent : List SyncOp) (holds : (op : SyncOp) → IsIn sent op → IsInVersion versions op) where
    gone_of : (ops : List SyncOp) → ((op : SyncOp) → IsIn ops op → IsIn sent op) → AllByRecursion (IsGone old begin chain versions) ops
    gone_of ops f = all_of (IsGone old begin chain versions) ops (λ op is. inl (holds op (f op is)))

    row_sent : (gs left : Groups) (mine : List SyncOp) → (w : IsRowOfGroups is_batch gs sent left) → IsIn w.few mine ⊎ IsIn left mine → LeftIn mine left
    row_sent gs left mine w (inl few) = record {
      left = [];
      are = all_gone (IsGone old begin chain versions) mine (gone_of mine (λ op is. subst (λ (ls : List SyncOp). IsIn ls op) (sym w.all) (in_joined w.few mine op few is)));
      among = inl refl;
    }
    row_sent gs left mine w (inr is) = stays_in left mine (inr is)

    part_sent : (gs left : Groups) (mine : List SyncOp) → (w : IsPartOfGroup is_batch gs sent left) → IsIn w.none mine ⊎ IsIn (w.g ∷ w.more) mine → LeftIn mine left
    part_sent gs left mine w (inl none) = stays_in left mine (inl (nothing_in w.none mine w.empty none))
    part_sent gs left mine w (inr (inl same)) = record {
      left = w.others;
      are = subst (λ (ls : List SyncOp). AreLeft (IsGone old begin chain versions) ls w.others) (sym w.parts ∙ same) (first_gone (IsGone old begin chain versions) sent w.others (gone_of sent (λ op is. is)));
      among = subst (λ (ls : Groups). (w.others ≡ []) ⊎ IsIn ls w.others) (sym w.is_left) (rest_in w.others w.more);
    }
    part_sent gs left mine w (inr (inr is)) = stays_in left mine (inr (subst (λ (ls : Groups). IsIn ls mine) (sym w.is_left) (in_put w.others w.more mine is)))

    first_sent : (gs left : Groups) (mine : List SyncOp) → IsFirst is_batch gs sent left → IsIn gs mine → LeftIn mine left
    first_sent gs left mine f is = by f.way
      where
        by : IsRowOfGroups is_batch gs sent left ⊎ IsPartOfGroup is_batch gs sent left → LeftIn mine left
        by (inl w) = row_sent gs left mine w (in_either w.few left mine (subst (λ (ls : Groups). IsIn ls mine) w.split is))
        by (inr w) = part_sent gs left mine w (in_either w.none (w.g ∷ w.more) mine (subst (λ (ls : Groups). IsIn ls mine) w.split is))

  -- ---- a path

  holds_ops : (v : Version) (ops : List SyncOp) → IsIn versions v → IsSegment v.segment ops → (op : SyncOp) → IsIn ops op → IsInVersion versions op
  holds_ops v ops is reads op holds = record { version = v; there = is; ops = ops; reads = reads; holds = holds }

  passed_left : (r : Reached) (leg : Leg) (mine : List SyncOp) → IsThere old begin chain r → MayPass r leg → IsIn versions (version_on leg) → IsIn r.left mine → LeftIn mine (passed r leg).left
  passed_left r (Pull v ops) mine there may is at = crossed (fit_part r.tasks ops) r.left mine
      (λ s l met lost. inr (record { place = r; passed = there.passed; folded = there.folded; version = v; there = is; ops = ops; may = may; other = s; met = met; lost = lost })) at
  passed_left r (Push v ops) mine there may is at =
      first_sent (first is_batch r.left) (λ op holds. holds_ops v ops is may.reads op (subst (λ (ls : List SyncOp). IsIn ls op) (sym may.sent) holds)) r.left (rest is_batch r.left) mine
      (cut_is_first is_batch r.left batch_is_limit may.some) at

  pub path_left : (r : Reached) (legs : List Leg) (mine : List SyncOp) → ((gone more : List Leg) → legs ≡ gone ++ more → IsThere old begin chain (come r gone)) → IsPath r legs → AllByRecursion (IsIn versions) (versions_of legs) → (mine ≡ []) ⊎ IsIn r.left mine
      → LeftIn mine (come r legs).left
  path_left r [] mine there path all at = stays_in r.left mine at
  path_left r (leg ∷ legs) mine there path all (inl none) = stays_in (come r (leg ∷ legs)).left mine (inl none)
  path_left r (leg ∷ legs) mine there path all (inr is) =
      let one : LeftIn mine (passed r leg).left = passed_left r leg mine (there [] (leg ∷ legs) refl) path.0 all.0 is in
      let two : LeftIn one.left (come r (leg ∷ legs)).left =
      path_left (passed r leg) legs one.left (λ gone more e. there (leg ∷ gone) more (ap (λ (ls : List Leg). leg ∷ ls) e)) path.1 all.1 one.among in
      record { left = two.left; are = again (IsGone old begin chain versions) mine one.left two.left one.are two.are; among = two.among }
