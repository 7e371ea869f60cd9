-- How much longer a call makes a journal's file.
use Rattle.std.specs.Prelude.{ℕ, ◌+◌, ◌^◌, min, List, length}
use Rattle.tw_world.specs.Disk.{DiskModel, LeavesOnly}
use Rattle.tw_journal.specs.Record.{IsLongerBy}
use Rattle.tw_journal.specs.declared.journal.Journal.{Journal}
use Rattle.timew_store.specs.Held.{OnRecords}

-- The bytes that writing a body adds: its own, with the gate and the length. A body that is too long for a record adds none.
abbrev pub record_size : List ℕ → ℕ
record_size body = min (length body + 5) (2 ^ 30)

-- whatever records the journal has, no file that a crash leaves is longer by more than so many bytes
abbrev pub JournalGrowsBy : {D : Type 0} → DiskModel D → Journal → (before after : D) → ℕ → Type 0
JournalGrowsBy n journal before after bytes = OnRecords n journal before (λ bodies. LeavesOnly n before after (IsLongerBy n before bytes))
