-- What a crash leaves of a stable disk while one call changes it, and while a sync follows.
use Rattle.std.proofs.Common.{◌≡◌, ℕ, ◌-◌, ◌≤◌, List, [], ◌++◌, length, take, sym, subst, ◌∙◌, ap, arith, append-nil}
use Rattle.std.specs.Prelude.{replicate}
use Rattle.std.proofs.lemmas.List.{take_all}
use Rattle.tw_world.specs.Disk.{DiskModel, Tells, IsStable, Steps, LeavesOnly, resized}
use Rattle.tw_world.proofs.Moments.{CountsNow, OnlyNow, at_rest, goes_on, stays}
use Rattle.tw_journal.specs.Checkpoint.{extended}

module _ {D : Type 0} (m : DiskModel D) (counts_now : CountsNow m) (only_now : OnlyNow m) (old : D) (step : List ℕ → List ℕ → Type 0) (P : List ℕ → Type 0) (here : P (m.seen old)) (leads : (c : List ℕ) → step (m.seen old) c → P c)
    (tells : Tells m old) (settled : IsStable m old) where
  pub one_call : (a : D) → Steps m step old a → LeavesOnly m old a P
  one_call a steps =
      goes_on m counts_now old old a (λ c. c ≡ m.seen old) P step (at_rest m only_now old settled) tells steps
      (λ c same. subst P (sym same) here)
      (λ d c same went. leads c (subst (λ (s : List ℕ). step s c) same went))

  pub then_sync : (a n : D) → Steps m step old a → Steps m (λ d c. c ≡ d) a n → LeavesOnly m old n P
  then_sync a n steps last = stays m counts_now old a n P (one_call a steps) (steps.tells ∙ tells) last

-- a shorter length cuts, and a longer one adds zeros
pub resized_shorter : (len : ℕ) (file : List ℕ) → len ≤ length file → resized len file ≡ take len file
resized_shorter len file le =
    let none : len - length file ≡ 0 = omega (arith, le) in
    ap (λ (k : ℕ). take len file ++ replicate k 0) none ∙ append-nil (take len file)

pub resized_longer : (len : ℕ) (file : List ℕ) → length file ≤ len → resized len file ≡ extended len file
resized_longer len file le = ap (λ (front : List ℕ). front ++ replicate (len - length file) 0) (take_all len file le)
