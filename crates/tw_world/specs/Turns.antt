-- Two objects that are used in turns: what a crash at any moment leaves of both.
use Rattle.std.specs.Prelude.{ℕ, List}
use Rattle.tw_world.specs.Disk.{DiskModel}
use Rattle.tw_world.specs.Crash.{CrashModel, LeavesOnly}

-- a disk among the objects that outlive the program
abbrev pub crash_of : {D : Type 0} → DiskModel D → CrashModel D (List ℕ)
crash_of m = record { faults = m.faults; tells = m.tells; seen = m.seen; leaves = m.leaves; moment = m.moment; left_since = m.left_since }

-- From one state of two objects to another they move in turns, each while the other rests,
-- and whatever a crash leaves of both at one moment has P.
pub data InTurns {A B X Y : Type 0} (m : CrashModel A X) (n : CrashModel B Y) (P : X → Y → Type 0) : A → B → A → B → Type 0 where
  -- neither moves
  at_rest : (a : A) (b : B) → ((x : X) (y : Y) → m.leaves a x → n.leaves b y → P x y) → InTurns m n P a b a b
  -- the first moves, and then the rest
  first : (a mid : A) (b : B) (a' : A) (b' : B) → LeavesOnly m a mid (λ x. (y : Y) → n.leaves b y → P x y) → InTurns m n P mid b a' b' → InTurns m n P a b a' b'
  -- the second moves, and then the rest
  second : (a : A) (b mid : B) (a' : A) (b' : B) → LeavesOnly n b mid (λ y. (x : X) → m.leaves a x → P x y)
      → InTurns m n P a mid a' b' → InTurns m n P a b a' b'
