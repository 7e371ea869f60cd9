-- What is printed of a journal that is looked at, and of what is saved of one.
use Rattle.std.specs.Prelude.{ℕ, ◌+◌, ◌/◌, ◌%◌, ◌==◌, nat_lt, ◌∷◌, if◌then◌else◌, Bool, true, false, cond, List, [], ◌++◌, take, Option, Some, None, codes}
use Rattle.std.specs.Fmt.{decimal}
use Rattle.uuid.specs.Text.{lower, hyphenated_text}
use Rattle.tw_world.specs.declared.moment.Moment.{Moment}
use Rattle.tw_time.specs.Extended.{extended}
use Rattle.tw_check.specs.declared.kind.Kind.{Kind}
use Rattle.tw_check.specs.declared.kind.Kind.TheVariants.{Tasks, Hours, History}
use Rattle.tw_check.specs.declared.holding.Held.{Held}

-- so many of a thing
abbrev pub counted : ℕ → List ℕ → List ℕ
counted n word = decimal n ++ (codes " " ++ (word ++ cond (n == 1) [] (codes "s")))

-- what a journal is of, in a column of nine
abbrev pub kind_word : Kind → List ℕ
kind_word Tasks = codes "tasks    "
kind_word Hours = codes "hours    "
kind_word History = codes "history  "

abbrev pub place_line : Kind → List ℕ → List ℕ
place_line kind path = kind_word kind ++ (path ++ codes "\n")

abbrev pub size_text : (bytes records : ℕ) → List ℕ
size_text bytes records = codes "         " ++ (counted bytes (codes "byte") ++ (codes ", " ++ counted records (codes "record")))

-- what is told of a journal whose records are not looked into
abbrev pub journal_text : Kind → List ℕ → (bytes records : ℕ) → List ℕ
journal_text kind path bytes records = place_line kind path ++ (size_text bytes records ++ codes "\n")

abbrev pub tasks_text : (tasks pending : ℕ) → List ℕ
tasks_text tasks pending = codes ", " ++ (counted tasks (codes "task") ++ (codes ", " ++ counted pending (codes "pending operation")))

-- the moment of the last pending update
abbrev pub last_text : Option Moment → List ℕ
last_text None = codes "\n"
last_text (Some at) = codes ", the last at " ++ (extended at.seconds ++ codes "Z\n")

abbrev pub base_line : List ℕ → List ℕ
base_line uuid = codes "base     " ++ (hyphenated_text lower uuid ++ codes "\n")

-- the digit of a number below 16
abbrev pub digit : ℕ → ℕ
digit n = if nat_lt n 10 then n + 48 else if nat_lt n 16 then n + 87 else 63

abbrev pub digits : List ℕ → List ℕ
digits [] = []
digits (byte ∷ bytes) = digit (byte / 16) ∷ digit (byte % 16) ∷ digits bytes

-- sixteen bytes of a digest, and a dash for none
abbrev pub digest_line : Option (List ℕ) → List ℕ
digest_line None = codes "digest   -\n"
digest_line (Some digest) = codes "digest   " ++ (digits (take 16 digest) ++ codes "\n")

-- what is told of a journal of tasks
abbrev pub held_text : List ℕ → (bytes records : ℕ) → Held → List ℕ
held_text path bytes records held =
    place_line Tasks path ++ (size_text bytes records ++ (tasks_text held.tasks held.pending ++ (last_text held.changed ++ (base_line held.base ++ digest_line held.digest))))

-- ---- damage

abbrev pub damage_text : List ℕ → (offset bytes : ℕ) → List ℕ
damage_text path offset bytes = path ++ (codes ": damaged at " ++ (decimal offset ++ (codes " of " ++ counted bytes (codes "byte"))))

-- what can be saved of it
abbrev pub whole_text : (is_older : Bool) → (records : ℕ) → List ℕ
whole_text false records = codes "; whole before that: " ++ (counted records (codes "record") ++ codes "\n")
whole_text true records = codes "; whole as of an earlier moment: " ++ (counted records (codes "record") ++ codes "\n")

-- a damaged journal of which something can be saved, and how
abbrev pub damaged_text : List ℕ → (offset bytes : ℕ) → (is_older : Bool) → (records : ℕ) → List ℕ
damaged_text path offset bytes is_older records =
    damage_text path offset bytes ++ (whole_text is_older records ++ (codes "to go on with that: tw rescue " ++ (path ++ codes "\n")))

-- one of which nothing can be saved
abbrev pub lost_text : List ℕ → (offset bytes : ℕ) → List ℕ
lost_text path offset bytes = damage_text path offset bytes ++ codes "; no record is whole\nkeep it, and put back a copy\n"

-- ---- what was saved

abbrev pub saved_line : List ℕ → (records bytes : ℕ) → List ℕ
saved_line path records bytes = path ++ (codes ".rescued: " ++ (counted records (codes "record") ++ (codes ", " ++ counted bytes (codes "byte"))))

-- what is not in it
abbrev pub left_out_text : (is_older : Bool) → (left_out : ℕ) → List ℕ
left_out_text false left_out = codes "; left out: " ++ (counted left_out (codes "byte") ++ codes "\n")
left_out_text true left_out = codes ", as of an earlier moment; the newer state is damaged\n"

abbrev pub saved_text : List ℕ → (records bytes : ℕ) → (is_older : Bool) → (left_out : ℕ) → List ℕ
saved_text path records bytes is_older left_out =
    saved_line path records bytes ++ (left_out_text is_older left_out ++ (codes "keep the damaged file, and move this one to " ++ (path ++ codes "\n")))

-- a journal that is not damaged
abbrev pub sound_text : List ℕ → List ℕ
sound_text path = path ++ codes ": not damaged\n"

-- how long the one record in place of a row would be
abbrev pub length_text : (bytes : ℕ) → List ℕ
length_text bytes = codes ": not damaged; as one record it would have " ++ (counted bytes (codes "byte") ++ codes "\n")

-- a row of the first version that can't be made new
abbrev pub too_long_text : List ℕ → (bytes : ℕ) → List ℕ
too_long_text path bytes = path ++ length_text bytes
