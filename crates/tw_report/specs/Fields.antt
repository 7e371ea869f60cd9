-- What reports show of a task: task(1), under "reports".
use Rattle.std.specs.Prelude.{ℕ, Bool, true, false, List, [], ◌∷◌, map, Option, Some, None, codes}
use Rattle.std.specs.Fmt.{decimal}
use Rattle.std.specs.FinMap.{get}
use Rattle.jiff.specs.Types.{TimeZone}
use Rattle.uuid.specs.Text.{hyphenated_text, lower}
use Rattle.tw_text.specs.Columns.{cell_text}
use Rattle.tw_text.specs.Decimal.{decimal3}
use Rattle.tw_time.specs.Shown.{shown_day_text}
use Rattle.tw_model.specs.Ops.{TaskValue}
use Rattle.tw_model.specs.Places.{id_of}
use Rattle.tw_urgency.specs.Stored.{moment_at}
use Rattle.tw_urgency.specs.Status.{status_of}
use Rattle.tw_urgency.specs.Urgency.{urgency}
use Rattle.tw_urgency.specs.declared.Status.{Status}
use Rattle.tw_urgency.specs.declared.Status.TheVariants as status
use Rattle.tw_text.specs.Table.{Layout}
use Rattle.tw_report.specs.Sight.{Sight}
use Rattle.tw_report.specs.declared.report.Report.{Report}
use Rattle.tw_report.specs.declared.report.Report.TheVariants as report
use Rattle.tw_report.specs.declared.field.Field.{Field}
use Rattle.tw_report.specs.declared.field.Field.TheVariants.{Id, Urgency, Project, Priority, Due, Ended, Wait, Status as StatusWord, Uuid, Description}

-- what a report shows of each task, from the left
abbrev pub fields_of : Report → List Field
fields_of report.List = Id ∷ Project ∷ Priority ∷ Due ∷ Description ∷ []
fields_of report.Next = Id ∷ Urgency ∷ Project ∷ Due ∷ Description ∷ []
fields_of report.All = Id ∷ StatusWord ∷ Uuid ∷ Description ∷ []
fields_of report.Completed = Uuid ∷ Ended ∷ Description ∷ []
fields_of report.Waiting = Id ∷ Wait ∷ Description ∷ []
fields_of report.Blocked = Id ∷ Due ∷ Description ∷ []

abbrev pub heading : Field → List ℕ
heading Id = codes "ID"
heading Urgency = codes "Urg"
heading Project = codes "Project"
heading Priority = codes "Pri"
heading Due = codes "Due"
heading Ended = codes "Completed"
heading Wait = codes "Wait"
heading StatusWord = codes "Status"
heading Uuid = codes "UUID"
heading Description = codes "Description"

-- numbers stand at the right
abbrev pub is_right : Field → Bool
is_right Id = true
is_right Urgency = true
is_right Project = false
is_right Priority = false
is_right Due = false
is_right Ended = false
is_right Wait = false
is_right StatusWord = false
is_right Uuid = false
is_right Description = false

abbrev pub layout : Report → Layout
layout r = map (λ f. (heading f, is_right f)) (fields_of r)

-- a number, and nothing without one
abbrev pub number_text : Option ℕ → List ℕ
number_text None = []
number_text (Some n) = decimal n

-- the day of a moment in a zone, and nothing without one
abbrev pub day_text : TimeZone → Option ℕ → List ℕ
day_text tz None = []
day_text tz (Some at) = shown_day_text tz at

-- a value on one line, and nothing without one
abbrev pub value_text : Option (List ℕ) → List ℕ
value_text None = []
value_text (Some value) = cell_text value

-- the word of a status, and that which is stored for one of another word
abbrev pub status_text : Status → Option (List ℕ) → List ℕ
status_text status.Pending stored = codes "pending"
status_text status.Waiting stored = codes "waiting"
status_text status.Completed stored = codes "completed"
status_text status.Deleted stored = codes "deleted"
status_text status.Recurring stored = codes "recurring"
status_text status.Other stored = value_text stored

-- what is shown of a task. Numbers, days and uuids have no control character, so they need no cell
abbrev pub field_text : Field → Sight → List ℕ → TaskValue → List ℕ
field_text Id s u task = number_text (id_of u s.numbers)
field_text Urgency s u task = decimal3 (urgency s.tasks u s.now s.weights)
field_text Project s u task = value_text (get task (codes "project"))
field_text Priority s u task = value_text (get task (codes "priority"))
field_text Due s u task = day_text s.zone (moment_at (codes "due") task)
field_text Ended s u task = day_text s.zone (moment_at (codes "end") task)
field_text Wait s u task = day_text s.zone (moment_at (codes "wait") task)
field_text StatusWord s u task = status_text (status_of task s.now) (get task (codes "status"))
field_text Uuid s u task = hyphenated_text lower u
field_text Description s u task = value_text (get task (codes "description"))
