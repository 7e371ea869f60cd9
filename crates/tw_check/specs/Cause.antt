-- Why a journal of tasks does not open.
use Rattle.std.specs.Prelude.{ℕ, List}
use Rattle.tw_replica.specs.Replica.{IsBadAt, IsRowTooLong}
use Rattle.tw_check.specs.declared.error.CheckError.{CheckError}
use Rattle.tw_check.specs.declared.error.CheckError.TheVariants.{Damaged, TooLong, Memory}

-- the file is so
abbrev pub IsCause : List ℕ → CheckError → Type 0
IsCause file (Damaged offset) = IsBadAt file offset
IsCause file (TooLong bytes) = IsRowTooLong file bytes
IsCause file Memory = Unit {0}
