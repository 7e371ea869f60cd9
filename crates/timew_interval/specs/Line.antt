-- The line of an interval, as it is written.
use Rattle.std.specs.Prelude.{ℕ, Bool, List, [], ◌++◌, codes, Option, Some, None, ◌+◌, cond, ◌==◌, ◌∷◌, not, ◌||◌, nat_lt}
use Rattle.tw_time.specs.Basic.{basic}
use Rattle.timew_interval.specs.declared.interval.Interval.{Interval}
use Rattle.std.specs.List.{flat_map, list_any}

-- a space, a quotation mark, a backslash or the sign of a number
abbrev pub is_special : ℕ → Bool
is_special b = (b == 32) || (b == 34) || (b == 92) || (b == 35)

-- a byte that a tag without quotes may have
abbrev pub is_bare : ℕ → Bool
is_bare b = not (is_special b || (nat_lt b 32 || (b == 127)))

-- a quotation mark or a backslash
abbrev pub is_escaped : ℕ → Bool
is_escaped b = (b == 34) || (b == 92)

abbrev pub escaped : List ℕ → List ℕ
escaped [] = []
escaped (b ∷ text) = cond (is_escaped b) (92 ∷ b ∷ escaped text) (b ∷ escaped text)

abbrev pub quoted : List ℕ → List ℕ
quoted text = 34 ∷ (escaped text ++ 34 ∷ [])

-- a tag, in quotes if it has a special character
abbrev pub tag_text : List ℕ → List ℕ
tag_text tag = cond (list_any is_special tag) (quoted tag) tag

-- tags, parted by spaces
abbrev pub tags_text : List (List ℕ) → List ℕ
tags_text [] = []
tags_text (tag ∷ []) = tag_text tag
tags_text (tag ∷ next ∷ tags) = tag_text tag ++ 32 ∷ tags_text (next ∷ tags)

-- an annotation, if there is one
abbrev pub note_text : List ℕ → List ℕ
note_text [] = []
note_text (b ∷ text) = codes " # " ++ quoted (b ∷ text)

-- what a line has after its moments
abbrev pub tail_text : List (List ℕ) → List ℕ → List ℕ
tail_text [] [] = []
tail_text [] (b ∷ text) = codes " #" ++ note_text (b ∷ text)
tail_text (tag ∷ tags) annotation = codes " # " ++ (tags_text (tag ∷ tags) ++ note_text annotation)

abbrev pub end_text : Option ℕ → List ℕ
end_text None = []
end_text (Some end) = codes " - " ++ basic end

-- the one text of an interval
abbrev pub line_text : Interval → List ℕ
line_text r = codes "inc " ++ (basic r.start ++ (end_text r.end ++ tail_text r.tags r.annotation))

-- the lines of intervals
abbrev pub lines_text : List Interval → List ℕ
lines_text rows = flat_map (λ r. line_text r ++ 10 ∷ []) rows
