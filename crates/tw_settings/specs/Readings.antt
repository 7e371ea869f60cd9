-- All that settings say, and what an empty value says.
use Rattle.std.specs.Prelude.{◌≡◌, ℕ, Bool, cond, List, [], ◌∷◌, Option, Some, codes}
use Rattle.tw_model.specs.Maps.{same_bytes}
use Rattle.tw_urgency.specs.declared.coefficients.Coefficients.{Coefficients}
use Rattle.tw_settings.specs.Settings.{Pair, value_of}
use Rattle.tw_settings.specs.Switches.{is_set_on, is_turned_on, recurrence_limit}
use Rattle.tw_settings.specs.Weights.{weights}
use Rattle.tw_settings.specs.Servers.{address_set, server_set}
use Rattle.tw_settings.specs.Folder.{folder_set}
use Rattle.tw_settings.specs.declared.address.Address.{Address}
use Rattle.tw_settings.specs.declared.server.ServerSettings.{ServerSettings}

-- what each call reads in settings
pub record Readings : Type 0 where
  pub gc : Bool
  pub recurrence : Bool
  pub hooks : Bool
  pub timetrack : Bool
  pub limit : ℕ
  pub weights : Coefficients
  pub server : Option ServerSettings
  pub address : Option Address
  pub folder : List ℕ

abbrev pub readings : (taskdata home : Option (List ℕ)) → List Pair → Readings
readings taskdata home pairs = record {
  gc = is_set_on (codes "gc") pairs;
  recurrence = is_set_on (codes "recurrence") pairs;
  hooks = is_set_on (codes "hooks") pairs;
  timetrack = is_turned_on (codes "timetrack") pairs;
  limit = recurrence_limit pairs;
  weights = weights pairs;
  server = server_set pairs;
  address = address_set pairs;
  folder = folder_set taskdata home pairs;
}

-- the settings of other names
abbrev pub without : (name : List ℕ) → List Pair → List Pair
without name [] = []
without name (x ∷ xs) = cond (same_bytes x.0 name) (without name xs) (x ∷ without name xs)

-- settings in which the last value of a name is empty say what the settings of the other names say
abbrev pub EmptyIsAbsent : Type 0
EmptyIsAbsent = (name : List ℕ) (pairs : List Pair) (taskdata home : Option (List ℕ))
    → value_of name pairs ≡ Some [] → readings taskdata home pairs ≡ readings taskdata home (without name pairs)
