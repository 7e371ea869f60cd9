-- Without a word: what is tracked now.
use Rattle.std.specs.Prelude.{ℕ, List, codes, Option, ◌++◌, option_map}
use Rattle.tw_time.specs.Basic.{basic}
use Rattle.timew_interval.specs.declared.interval.Interval.{Interval}
use Rattle.timew_cmd.specs.Open.{open_of}
use Rattle.timew_cmd.specs.Texts.{tags_text}

-- what is tracked, if an interval is open
abbrev pub tracking : List Interval → Option (List ℕ)
tracking rows = option_map (λ o. codes "Tracking " ++ tags_text o.1.tags ++ codes " since " ++ basic o.1.start ++ codes ".\n") (open_of rows)
