-- What is said of a variable TZ that holds no rule.
use Rattle.std.specs.Prelude.{List, ℕ, [], ◌∷◌, codes}
use Rattle.tw_hints.specs.Lines.{Row, says_of}
use Rattle.tw_hints.specs.Words.{says_word}

-- the variable, and the rule in the last line of a file
abbrev pub zone_rows : (zone file : List ℕ) → List Row
zone_rows zone file =
    says_word (codes "TZ is \"%\", and tw takes its rule; set it by") zone
    ∷ says_of (codes "  export TZ=\"$(tail -n 1 %)\"") file ∷ []
