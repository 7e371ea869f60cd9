-- What the program takes from its surroundings, and how it ends if it does not begin.
use Rattle.std.specs.Prelude.{◌==◌, ℕ, Bool, List, [], ◌∷◌, ◌++◌, Option, Some, None, Result, Ok, Err, true, false, cond, codes, string_bytes, string_len, String}
use Rattle.std.specs.Str.{bytes_eq}
use Rattle.std.specs.declared.env.VarError.{VarError}
use Rattle.std.specs.declared.env.VarError.TheVariants as variable
use Rattle.tw.specs.declared.start.StartError.{StartError}
use Rattle.tw.specs.declared.start.StartError.TheVariants.{CommandLine, Service, Zone, Failed, InUse, Memory}
use Rattle.tw.specs.declared.start.Part.{Part}
use Rattle.tw.specs.declared.start.Part.TheVariants.{Help, Version, Task, Timew, Server, Check, Rescue, Audit}

-- the status of a program that does not begin
abbrev pub status_of : StartError → ℕ
status_of CommandLine = 2
status_of Service = 2
status_of Zone = 2
status_of Failed = 3
status_of InUse = 3
status_of Memory = 4

-- the line that says why it does not begin
abbrev pub line_of : StartError → List ℕ
line_of CommandLine = codes "tw: bad command line\n"
line_of Service = codes "tw: bad command line\n"
line_of Zone = codes "tw: bad command line\n"
line_of Failed = codes "tw: start failed\n"
line_of InUse = codes "tw: the file is in use\n"
line_of Memory = codes "tw: out of memory\n"

-- the first words, and the part of the program that each names
abbrev pub parts : List (List ℕ × Part)
parts =
    (codes "--help", Help) ∷ (codes "help", Help) ∷ (codes "-h", Help) ∷ (codes "--version", Version)
    ∷ (codes "task", Task) ∷ (codes "timew", Timew) ∷ (codes "server", Server)
    ∷ (codes "check", Check) ∷ (codes "rescue", Rescue) ∷ (codes "audit", Audit)
    ∷ []

-- what a variable says: nothing if it is not set, or empty
abbrev pub value_of : {Z : Type 0} → Result (String Z) VarError → Result (Option (String Z)) StartError
value_of (Ok text) = cond (string_len text == 0) (Ok None) (Ok (Some text))
value_of (Err variable.NotPresent) = Ok None
value_of (Err variable.NotUnicode) = Err Failed
value_of (Err variable.OutOfMemory) = Err Memory

-- whether lines for a person are wanted: as the variable TW_HINTS says by 1 or 0, else if there is a terminal to read them
abbrev pub wants_hints : {Z : Type 0} → Result (String Z) VarError → (at_terminal : Bool) → Bool
wants_hints (Ok text) at_terminal =
    cond (bytes_eq (string_bytes text) (codes "1")) true
    (cond (bytes_eq (string_bytes text) (codes "0")) false
    at_terminal)
wants_hints (Err fault) at_terminal = at_terminal

-- the settings file that TASKRC and HOME name
abbrev pub settings_path : (taskrc home : Option (List ℕ)) → Option (List ℕ)
settings_path (Some taskrc) home = Some taskrc
settings_path None (Some home) = Some (home ++ codes "/.taskrc")
settings_path None None = None
