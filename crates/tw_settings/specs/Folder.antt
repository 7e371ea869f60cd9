-- The folder of the tasks: task(1), under "FILES", and taskrc(5), under "FILES".
use Rattle.std.specs.Prelude.{ℕ, cond, List, [], ◌∷◌, ◌++◌, Option, Some, None, nat_eq, drop, codes}
use Rattle.std.specs.List.{starts_with}
use Rattle.tw_terms.specs.Cuts.{parts}
use Rattle.tw_settings.specs.Settings.{Pair, setting_in, value_behind, value_of}

-- what a line sets, before what later lines set; a line that is no setting is passed over
abbrev pub set_before : Option (Option Pair) → List Pair → List Pair
set_before None later = later
set_before (Some None) later = later
set_before (Some (Some x)) later = x ∷ later

-- what lines set
abbrev pub set_by : List (List ℕ) → List Pair
set_by [] = []
set_by (line ∷ lines) = set_before (setting_in line) (set_by lines)

-- the value of a name after a line, before which it had this one
abbrev pub value_with : (name : List ℕ) → Option (List ℕ) → Option (Option Pair) → Option (List ℕ)
value_with name value set = value_behind name value (set_before set [])

-- what the lines of a text set
abbrev pub settings_of : List ℕ → List Pair
settings_of text = set_by (parts 10 text)

-- the value of the last line that sets `data.location`
abbrev pub location_in : List ℕ → Option (List ℕ)
location_in text = value_of (codes "data.location") (settings_of text)

-- below the home folder, if that is known
abbrev pub home_folder : Option (List ℕ) → List ℕ
home_folder (Some home) = home ++ codes "/.task"
home_folder None = codes ".task"

-- the folder that a setting names, which may lie below the home folder
abbrev pub expanded : (location : List ℕ) → Option (List ℕ) → List ℕ
expanded location (Some home) = cond (starts_with nat_eq location (codes "~/")) (home ++ codes "/" ++ drop 2 location) location
expanded location None = location

-- the folder that a setting names, where it names one, else the one below the home folder
abbrev pub located : (location : Option (List ℕ)) → Option (List ℕ) → List ℕ
located None home = home_folder home
located (Some []) home = home_folder home
located (Some (b ∷ bs)) home = expanded (b ∷ bs) home

-- the folder that a variable names, else the one of the settings
abbrev pub folder_set : (taskdata home : Option (List ℕ)) → List Pair → List ℕ
folder_set (Some folder) home pairs = folder
folder_set None home pairs = located (value_of (codes "data.location") pairs) home

-- the same by the lines of a text
abbrev pub folder_in : (settings : List ℕ) → (taskdata home : Option (List ℕ)) → List ℕ
folder_in settings taskdata home = folder_set taskdata home (settings_of settings)
