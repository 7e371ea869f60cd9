-- The address of the server that a line and settings name.
use Rattle.std.specs.Prelude.{ℕ, List, Option, None, Result, Ok, Err}
use Rattle.tw_settings.specs.Settings.{Pair, settings_in}
use Rattle.tw_settings.specs.Servers.{address_set}
use Rattle.tw_settings.specs.declared.address.Address.{Address}
use Rattle.tw_settings.specs.declared.word_error.WordError.{WordError}
use Rattle.tw_words.specs.Lines.{parts_of_line}

abbrev pub address_if_set : Result (List Pair) WordError → Option Address
address_if_set (Ok pairs) = address_set pairs
address_if_set (Err e) = None

-- the address of the server that a text of settings and the overrides of a line name, if each is a setting
abbrev pub address_in : (words : List (List ℕ)) → (settings : List ℕ) → Option Address
address_in words settings = address_if_set (settings_in settings (parts_of_line words).overrides)
