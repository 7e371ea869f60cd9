-- How runs of calls on two objects are put together.
use Rattle.std.proofs.Common.{ℕ, List}
use Rattle.tw_world.specs.Disk as disk
use Rattle.tw_world.specs.Disk.{DiskModel}
use Rattle.tw_world.specs.Crash.{CrashModel, LeavesOnly}
use Rattle.tw_world.specs.Turns.{InTurns, crash_of}
use Rattle.tw_world.specs.Turns.InTurns.{at_rest, first, second}
use Rattle.tw_world.proofs.Crashes.{CountsNow, weaker}

-- a run on a disk, among those on other objects
pub disk_run : {D : Type 0} (m : DiskModel D) (old new : D) (P : List ℕ → Type 0) → disk.LeavesOnly m old new P → LeavesOnly (crash_of m) old new P
disk_run m old new P run = record { later = run.later; each = run.each; before = run.before }

module _ {A B X Y : Type 0} (m : CrashModel A X) (n : CrashModel B Y) where
  -- two runs, one after the other
  pub turns_joined : (P : X → Y → Type 0) (a : A) (b : B) (c : A) (d : B) (e : A) (f : B) → InTurns m n P a b c d → InTurns m n P c d e f → InTurns m n P a b e f
  turns_joined P _ _ _ _ e f (at_rest a b here) later = later
  turns_joined P _ _ _ _ e f (first a mid b c d run rest) later = first a mid b e f run (turns_joined P mid b c d e f rest later)
  turns_joined P _ _ _ _ e f (second a b mid c d run rest) later = second a b mid e f run (turns_joined P a mid c d e f rest later)

  pub turns_weaker : (P Q : X → Y → Type 0) → ((x : X) (y : Y) → P x y → Q x y) → (a : A) (b : B) (c : A) (d : B) → InTurns m n P a b c d → InTurns m n Q a b c d
  turns_weaker P Q wide _ _ _ _ (at_rest a b here) = at_rest a b (λ x y left left'. wide x y (here x y left left'))
  turns_weaker P Q wide _ _ _ _ (first a mid b c d run rest) =
      first a mid b c d (weaker m a mid _ _ run (λ x has y left. wide x y (has y left))) (turns_weaker P Q wide mid b c d rest)
  turns_weaker P Q wide _ _ _ _ (second a b mid c d run rest) =
      second a b mid c d (weaker n b mid _ _ run (λ y has x left. wide x y (has x left))) (turns_weaker P Q wide a mid c d rest)

  -- a last run of the first object, of the second
  pub ends_first : CountsNow m → (P : X → Y → Type 0) (a a' : A) (b : B) → LeavesOnly m a a' (λ x. (y : Y) → n.leaves b y → P x y) → InTurns m n P a b a' b
  ends_first counts_now P a a' b run = first a a' b a' b run (at_rest a' b (λ x y left left'. run.each x (counts_now a' (m.moment a) x run.later left) y left'))

  pub ends_second : CountsNow n → (P : X → Y → Type 0) (a : A) (b b' : B) → LeavesOnly n b b' (λ y. (x : X) → m.leaves a x → P x y) → InTurns m n P a b a b'
  ends_second counts_now P a b b' run = second a b b' a b' run (at_rest a b' (λ x y left left'. run.each y (counts_now b' (n.moment b) y run.later left') x left))
