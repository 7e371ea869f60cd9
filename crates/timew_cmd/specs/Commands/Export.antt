-- `export`: the intervals as JSON, timew-export(1).
use Rattle.std.specs.Fmt.{decimal}
use Rattle.std.specs.Prelude.{ℕ, List, [], ◌∷◌, codes, Option, Some, None, map, ◌++◌}
use Rattle.json.specs.Print.{print}
use Rattle.json.specs.Token.{Token, begin_object, end_object, begin_array, end_array, key, string, number}
use Rattle.tw_time.specs.Basic.{basic}
use Rattle.timew_interval.specs.declared.interval.Interval.{Interval}
use Rattle.timew_cmd.specs.Ranges.{rows_within}

-- members of an interval's object; an empty one is left out
abbrev pub annotation_tokens : List ℕ → List Token
annotation_tokens [] = []
annotation_tokens (b ∷ text) = key (codes "annotation") ∷ string (b ∷ text) ∷ []

abbrev pub end_tokens : Option ℕ → List Token
end_tokens None = []
end_tokens (Some end) = key (codes "end") ∷ string (basic end) ∷ []

abbrev pub tags_tokens : List (List ℕ) → List Token
tags_tokens [] = []
tags_tokens (tag ∷ tags) = key (codes "tags") ∷ begin_array ∷ (map string (tag ∷ tags) ++ end_array ∷ [])

-- the object of an interval with its number
abbrev pub row_tokens : ℕ × Interval → List Token
row_tokens r =
    begin_object ∷ (annotation_tokens r.1.annotation ++ end_tokens r.1.end
    ++ (key (codes "id") ∷ number (decimal r.0) ∷ key (codes "start") ∷ string (basic r.1.start) ∷ [])
    ++ tags_tokens r.1.tags ++ end_object ∷ [])

unfoldable pub row_text : ℕ × Interval → List ℕ
row_text r = print (row_tokens r)

-- texts after a first one: each after a comma and a newline, and a newline after the last
abbrev pub more_lines : List (List ℕ) → List ℕ
more_lines [] = codes "\n"
more_lines (text ∷ texts) = codes ",\n" ++ text ++ more_lines texts

-- texts parted by a comma and a newline, with a newline after the last
abbrev pub lines : List (List ℕ) → List ℕ
lines [] = []
lines (text ∷ texts) = text ++ more_lines texts

-- the intervals in a range, whole
abbrev pub export : List Interval → (from to now : ℕ) → List ℕ
export rows from to now = codes "[\n" ++ lines (map row_text (rows_within from to now rows)) ++ codes "]\n"
