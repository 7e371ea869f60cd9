-- The line for a command that did not end well, and the status of each end.
use Rattle.std.specs.Prelude.{ℕ, List, [], ◌++◌, codes}
use Rattle.tw_world.specs.Sink.{SinkModel}
use Rattle.tw_ending.specs.Lines.{numbered, GotAny}
use Rattle.timew_cli.specs.declared.cause.Cause.{Cause}
use Rattle.timew_cli.specs.declared.cause.Cause.TheVariants.{Done, NotTracking, NothingToUndo, Edited, BadWords, NoInterval, NoOpen, AlreadyOpen, Range}
use Rattle.timew_cli.specs.declared.cause.Cause.TheVariants.{Overlap, BadLine, DiskFault, RecordTooLong, Damaged, FolderFault, Memory, OutFault}

-- the line for the standard error
abbrev pub fault_line : Cause → List ℕ
fault_line Done = []
fault_line NotTracking = codes "timew: no active tracking\n"
fault_line NothingToUndo = codes "timew: nothing to undo\n"
fault_line (Edited file) = codes "timew: " ++ (file ++ codes " was edited\n")
fault_line (BadWords word kind) = numbered (codes "timew: bad word ") word (codes "\n")
fault_line (NoInterval id) = numbered (codes "timew: no interval @") id (codes "\n")
fault_line NoOpen = codes "timew: no interval is open\n"
fault_line (AlreadyOpen id) = numbered (codes "timew: @") id (codes " is already open\n")
fault_line (Range word) = numbered (codes "timew: bad word ") word (codes "\n")
fault_line (Overlap id) = numbered (codes "timew: overlaps @") id (codes "\n")
fault_line (BadLine file line) = numbered (codes "timew: line ") line (codes " of ") ++ (file ++ codes " is no interval\n")
fault_line DiskFault = codes "timew: the journal failed\n"
fault_line (RecordTooLong bytes) = numbered (codes "timew: record of ") bytes (codes " bytes is too long\n")
fault_line (Damaged offset) = numbered (codes "timew: the journal is damaged at ") offset (codes "\n")
fault_line FolderFault = codes "timew: the folder failed\n"
fault_line Memory = codes "timew: out of memory\n"
fault_line OutFault = codes "timew: output failed\n"

-- its line has no name of a file
abbrev pub IsShort : Cause → Type 0
IsShort (Edited file) = ⊥
IsShort (BadLine file line) = ⊥
IsShort cause = Unit {0}

-- nothing was written for a command that ended well, and for any other its line
abbrev pub GotFault : {E : Type 0} → SinkModel E → (e0 e1 : E) → Cause → Type 0
GotFault s e0 e1 cause = GotAny s e0 e1 (fault_line cause)

-- the status of a cause
abbrev pub status_of : Cause → ℕ
status_of Done = 0
status_of NotTracking = 1
status_of NothingToUndo = 1
status_of (Edited file) = 1
status_of (BadWords word kind) = 2
status_of (NoInterval id) = 1
status_of NoOpen = 1
status_of (AlreadyOpen id) = 1
status_of (Range word) = 2
status_of (Overlap id) = 1
status_of (BadLine file line) = 7
status_of DiskFault = 3
status_of (RecordTooLong bytes) = 3
status_of (Damaged offset) = 7
status_of FolderFault = 8
status_of Memory = 4
status_of OutFault = 6
