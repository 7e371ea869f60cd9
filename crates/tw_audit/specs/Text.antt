-- The text that an audit prints.
use Rattle.std.specs.Prelude.{ℕ, nat_eq, cond, List, ◌++◌, codes, Option, Some, None}
use Rattle.std.specs.Fmt.{decimal}
use Rattle.uuid.specs.Text.{hyphenated_text, lower}
use Rattle.tw_text.specs.Columns.{cell_text}
use Rattle.tw_audit.specs.declared.auditing.Audited.{Audited}
use Rattle.tw_audit.specs.declared.differences.What.{What}
use Rattle.tw_audit.specs.declared.differences.What.TheVariants.{OnlyHere, OnlyThere, Value}
use Rattle.tw_audit.specs.declared.differences.Difference.{Difference}

-- so many of what a word names
abbrev pub ending : ℕ → List ℕ
ending count = cond (nat_eq count 1) (codes "") (codes "s")

abbrev pub counted : ℕ → List ℕ → List ℕ
counted count word = decimal count ++ word ++ ending count

abbrev pub value_text : Option (List ℕ) → List ℕ
value_text None = codes "not set"
value_text (Some value) = cell_text value

abbrev pub what_text : What → List ℕ
what_text OnlyHere = codes "it is only here\n"
what_text OnlyThere = codes "it is only there\n"
what_text (Value property here there) =
    cell_text property ++ codes " is " ++ (value_text here ++ codes " here, ") ++ (value_text there ++ codes " there\n")

abbrev pub same_text : (tasks versions : ℕ) → (base : List ℕ) → List ℕ
same_text tasks versions base =
    codes "same: " ++ (counted tasks (codes " task") ++ codes ", ") ++ (counted versions (codes " version") ++ codes " to ")
    ++ (hyphenated_text lower base ++ codes "\n")

abbrev pub difference_text : Difference → List ℕ
difference_text found =
    codes "differs: " ++ (counted found.tasks (codes " task") ++ codes ", first ") ++ (hyphenated_text lower found.uuid ++ codes ": ") ++ what_text found.what

abbrev pub text_by : Option Difference → Audited → List ℕ
text_by None found = same_text found.tasks found.versions found.base
text_by (Some difference) found = difference_text difference

-- how many tasks and versions are the same; or how many tasks differ, and what of the first one
abbrev pub audit_text : Audited → List ℕ
audit_text found = text_by found.difference found
