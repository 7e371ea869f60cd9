-- What an error is in the words of another call.
use Rattle.tw_world.specs.declared.disk.DiskError.{DiskError}
use Rattle.tw_world.specs.declared.disk.DiskError.TheVariants as faults
use Rattle.tw_journal.specs.declared.error.OpenError.{OpenError}
use Rattle.tw_journal.specs.declared.error.OpenError.TheVariants as opens
use Rattle.tw_journal.specs.declared.error.ReadError.{ReadError}
use Rattle.tw_journal.specs.declared.error.ReadError.TheVariants as reads
use Rattle.tw_journal.specs.declared.error.AppendError.{AppendError}
use Rattle.tw_journal.specs.declared.error.AppendError.TheVariants as appends
use Rattle.tw_journal.specs.declared.error.JournalError.{JournalError}
use Rattle.tw_journal.specs.declared.error.JournalError.TheVariants as errors

-- as an opening reports it
abbrev pub disk_in_open : DiskError → OpenError
disk_in_open faults.Failed = opens.Disk
disk_in_open faults.Memory = opens.Memory

-- as the reading of a record reports it
abbrev pub disk_in_read : DiskError → ReadError
disk_in_read faults.Failed = reads.Disk
disk_in_read faults.Memory = reads.Memory

abbrev pub open_in_read : OpenError → ReadError
open_in_read opens.Disk = reads.Disk
open_in_read (opens.Damaged offset) = reads.Damaged offset
open_in_read opens.Memory = reads.Memory

-- as one of several calls reports it
abbrev pub open_in_all : OpenError → JournalError
open_in_all opens.Disk = errors.Disk
open_in_all (opens.Damaged offset) = errors.Damaged offset
open_in_all opens.Memory = errors.Memory

abbrev pub read_in_all : ReadError → JournalError
read_in_all reads.Disk = errors.Disk
read_in_all reads.Closed = errors.Closed
read_in_all (reads.Damaged offset) = errors.Damaged offset
read_in_all reads.Memory = errors.Memory

abbrev pub append_in_all : AppendError → JournalError
append_in_all appends.Disk = errors.Disk
append_in_all appends.Closed = errors.Closed
append_in_all (appends.TooLong bytes) = errors.TooLong bytes
