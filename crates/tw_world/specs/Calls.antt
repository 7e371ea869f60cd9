-- Which calls of an object in memory fail, and how many were made and failed.
use Rattle.std.specs.Prelude.{ℕ, ◌+◌, ◌-◌, ◌^◌, min, Bool, ◌==◌, List}
use Rattle.std.specs.List.{list_any}
use Rattle.tw_world.specs.declared.calls.Calls.{Calls}

-- one more, up to the end of its type
abbrev pub next_count : ℕ → ℕ
next_count n = min (n + 1) (2 ^ 64 - 1)

-- is the call with this number among those that are to fail?
abbrev pub is_to_fail : List ℕ → ℕ → Bool
is_to_fail fails call = list_any (λ number. number == call) fails

-- is the next call one that is to fail?
abbrev pub is_named : Calls → Bool
is_named calls = is_to_fail calls.fails.items calls.made

-- one call more
abbrev pub counted : Calls → Calls
counted calls = record calls { made = next_count calls.made }

-- one fault more
abbrev pub failed : Calls → Calls
failed calls = record calls { faults = next_count calls.faults }
