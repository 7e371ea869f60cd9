-- The time zone of a run, as the variable TZ gives it (tzset(3)).
use Rattle.std.specs.Prelude.{◌≡◌, ℕ, List, Result, Ok, Err, String, string_bytes}
use Rattle.std.specs.declared.env.VarError.{VarError}
use Rattle.std.specs.declared.env.VarError.TheVariants as variable
use Rattle.jiff.specs.Types.{TimeZone, UTC}
use Rattle.tw_time.specs.Civil.{ReadsZone}
use Rattle.tw_time.specs.declared.zone.ZoneError.TheVariants.{Rule}
use Rattle.tw.specs.declared.start.StartError.{StartError}
use Rattle.tw.specs.declared.start.StartError.TheVariants.{CommandLine, Zone, Memory}

-- the zone of a text, and the error if it is of none
abbrev pub ReadsRule : List ℕ → Result TimeZone StartError → Type 0
ReadsRule text (Ok zone) = ReadsZone text (Ok zone)
ReadsRule text (Err e) = (e ≡ Zone) × ReadsZone text (Err Rule)

-- the zone of a variable, which is UTC if it is not set
abbrev pub ReadsVariable : {Z : Type 0} → Result (String Z) VarError → Result TimeZone StartError → Type 0
ReadsVariable (Ok text) zone = ReadsRule (string_bytes text) zone
ReadsVariable (Err variable.NotPresent) zone = zone ≡ Ok UTC
ReadsVariable (Err variable.NotUnicode) zone = zone ≡ Err CommandLine
ReadsVariable (Err variable.OutOfMemory) zone = zone ≡ Err Memory
