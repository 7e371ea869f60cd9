-- Why a file was not opened.
use Rattle.std.specs.Prelude.{Option, Some, None}
use Rattle.std.specs.declared.io.ErrorKind.{ErrorKind}
use Rattle.std.specs.declared.io.ErrorKind.TheVariants as kind
use Rattle.tw_hints.specs.declared.places.NotOpened.{NotOpened}
use Rattle.tw_hints.specs.declared.places.NotOpened.TheVariants.{Rights, Folder, InTheWay, ReadOnly, Other}

-- by the kind of the system's error
abbrev pub reason_of : Option ErrorKind → Option NotOpened
reason_of None = None
reason_of (Some kind.PermissionDenied) = Some Rights
reason_of (Some kind.IsADirectory) = Some Folder
reason_of (Some kind.NotADirectory) = Some InTheWay
reason_of (Some kind.AlreadyExists) = Some InTheWay
reason_of (Some kind.ReadOnlyFilesystem) = Some ReadOnly
reason_of (Some _) = Some Other
