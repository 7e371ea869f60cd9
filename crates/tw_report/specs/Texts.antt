-- The texts for people: task(1), under "reports", "information", "projects" and "tags".
use Rattle.std.specs.Prelude.{ℕ, suc, ◌==◌, Bool, true, false, cond, nat_eq, List, [], ◌∷◌, ◌++◌, length, map, drop, Option, Some, None, codes}
use Rattle.std.specs.List.{starts_with}
use Rattle.std.specs.Fmt.{decimal}
use Rattle.std.specs.FinMap.{get, insert, empty, entries, FinMap}
use Rattle.uuid.specs.Text.{hyphenated_text, lower}
use Rattle.tw_text.specs.Columns.{cell_text}
use Rattle.tw_text.specs.Decimal.{decimal3}
use Rattle.tw_model.specs.Maps.{bytes_cmp}
use Rattle.tw_model.specs.Ops.{TaskValue, TasksValue}
use Rattle.tw_model.specs.Places.{id_of}
use Rattle.tw_urgency.specs.Urgency.{urgency}
use Rattle.tw_text.specs.Table.{table}
use Rattle.tw_report.specs.Sight.{Sight}
use Rattle.tw_terms.specs.Chosen.{Entry, chosen}
use Rattle.tw_report.specs.Order.{Rank, with_ranks}
use Rattle.tw_report.specs.Fields.{fields_of, layout, number_text, field_text}
use Rattle.tw_report.specs.declared.report.Report.{Report}
use Rattle.tw_report.specs.declared.names.NameKind.{NameKind}
use Rattle.tw_report.specs.declared.names.NameKind.TheVariants as kind

-- ---- reports

abbrev pub cells_there : Report → Sight → List ℕ → Option TaskValue → List (List ℕ)
cells_there r s u None = []
cells_there r s u (Some task) = map (λ f. field_text f s u task) (fields_of r)

-- the cells of a row
abbrev pub row_of : Report → Sight → Rank → List (List ℕ)
row_of r s rank = cells_there r s rank.1 (get s.tasks rank.1)

-- how many tasks there are
abbrev pub tasks_text : ℕ → List ℕ
tasks_text n = decimal n ++ cond (n == 1) (codes " task\n") (codes " tasks\n")

abbrev pub ranked_text : Report → Sight → List Rank → List ℕ
ranked_text r s ranks = table (layout r) (map (row_of r s) ranks) ++ codes "\n" ++ tasks_text (length ranks)

-- a report of the rows: a table in the report's order, a blank line, and how many there are
abbrev pub report_text : Report → List (List ℕ) → Sight → List ℕ
report_text r rows s = ranked_text r s (with_ranks r s [] (chosen rows s.tasks))

-- ---- information

-- a property and its value, on one line
abbrev pub property_line : List ℕ × List ℕ → List ℕ
property_line p = cell_text (p.0 ++ codes ": " ++ p.1) ++ codes "\n"

abbrev pub property_lines : List (List ℕ × List ℕ) → List ℕ
property_lines [] = []
property_lines (p ∷ ps) = property_line p ++ property_lines ps

-- a name and a value, on one line
unfoldable pub plain_line : List ℕ → List ℕ → List ℕ
plain_line name value = name ++ codes ": " ++ value ++ codes "\n"

unfoldable pub id_line : Sight → List ℕ → List ℕ
id_line s u = plain_line (codes "id") (number_text (id_of u s.numbers))

unfoldable pub uuid_line : List ℕ → List ℕ
uuid_line u = plain_line (codes "uuid") (hyphenated_text lower u)

unfoldable pub urgency_line : Sight → List ℕ → List ℕ
urgency_line s u = plain_line (codes "urgency") (decimal3 (urgency s.tasks u s.now s.weights))

-- what is found of a task
unfoldable pub head_text : Sight → List ℕ → List ℕ
head_text s u = id_line s u ++ uuid_line u ++ urgency_line s u

-- all that is known of a task
abbrev pub task_information : Sight → Entry → List ℕ
task_information s e = head_text s e.0 ++ property_lines (entries e.1)

-- a blank line, but before the first
abbrev pub blank_line : (is_first : Bool) → List ℕ
blank_line true = []
blank_line false = codes "\n"

-- the texts of tasks, with blank lines between them
abbrev pub all_information : (is_first : Bool) → Sight → List Entry → List ℕ
all_information is_first s [] = []
all_information is_first s (e ∷ es) = blank_line is_first ++ task_information s e ++ all_information false s es

abbrev pub information_text : List (List ℕ) → Sight → List ℕ
information_text rows s = all_information true s (chosen rows s.tasks)

-- ---- projects and tags

-- how often each name occurs
abbrev pub Counts : Type 0
Counts = FinMap bytes_cmp ℕ

abbrev pub one_more : Option ℕ → ℕ
one_more None = 1
one_more (Some n) = suc n

-- a name once more
abbrev pub counted : Counts → List ℕ → Counts
counted counts name = insert counts name (one_more (get counts name))

-- the same, if there is a name
abbrev pub count_name : Counts → Option (List ℕ) → Counts
count_name counts None = counts
count_name counts (Some name) = counted counts name

-- a name, a space and how often it occurs
abbrev pub count_lines : List (List ℕ × ℕ) → List ℕ
count_lines [] = []
count_lines (c ∷ cs) = c.0 ++ codes " " ++ decimal c.1 ++ codes "\n" ++ count_lines cs

-- the project of a task, if it has one
abbrev pub count_project : Counts → TaskValue → Counts
count_project counts task = count_name counts (get task (codes "project"))

-- the tag that a property is, if it is one
abbrev pub tag_in : List ℕ → Option (List ℕ)
tag_in name = cond (starts_with nat_eq name (codes "tag_")) (Some (drop 4 name)) None

abbrev pub count_tags_in : Counts → List (List ℕ × List ℕ) → Counts
count_tags_in counts [] = counts
count_tags_in counts (p ∷ ps) = count_tags_in (count_name counts (tag_in p.0)) ps

-- the tags of a task
abbrev pub count_tags : Counts → TaskValue → Counts
count_tags counts task = count_tags_in counts (entries task)

-- the names of one kind
abbrev pub count_of : NameKind → Counts → TaskValue → Counts
count_of kind.Project = count_project
count_of kind.Tag = count_tags

abbrev pub count_all : (Counts → TaskValue → Counts) → Counts → List Entry → Counts
count_all f counts [] = counts
count_all f counts (e ∷ es) = count_all f (f counts e.1) es

-- one line for each project of the rows, in byte order
abbrev pub projects_text : List (List ℕ) → TasksValue → List ℕ
projects_text rows tasks = count_lines (entries (count_all count_project empty (chosen rows tasks)))

-- the same of tags
abbrev pub tags_text : List (List ℕ) → TasksValue → List ℕ
tags_text rows tasks = count_lines (entries (count_all count_tags empty (chosen rows tasks)))
