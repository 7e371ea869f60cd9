-- A store that puts its month files back, and one that has those after an edit.
use Rattle.std.proofs.Common.{◌≡◌, true, List, Ok, sym, ap, subst, ◌∙◌}
use Rattle.std.proofs.Props.{props}
use Rattle.tw_world.specs.Folder.{Files}
use Rattle.timew_interval.specs.declared.edit.Edit.{Edit}
use Rattle.timew_month.specs.declared.months.MonthFile.{MonthFile}
use Rattle.timew_interval.specs.declared.interval.Interval.{Interval}
use Rattle.timew_month.specs.declared.months.Months.{Months}
use Rattle.timew_month.specs.declared.months.KnownText.{KnownText}
use Rattle.timew_month.specs.Body.{FileChange}
use Rattle.timew_interval.specs.Edit.{edited}
use Rattle.timew_month.specs.Gathered.{files_of, months_in}
use Rattle.timew_month.specs.Files.{replaced}
use Rattle.timew_interval.specs.Interval.{IsEnd-prop}
use Rattle.timew_month.specs.NamedFiles.{are_named}
use Rattle.timew_month.specs.Known.{AreKnown}
use Rattle.timew_month.specs.Rows.{rows_of}
use Rattle.timew_store.specs.Store.{HoldMonths}

pub named_once : (files : List MonthFile) → IsProp (are_named files ≡ true)
named_once files = hlevel props

pub known_once : (files : List MonthFile) (rows : List Interval) (known : List KnownText) → IsProp (AreKnown files rows known)
known_once files rows known = hlevel (props, IsEnd-prop)

-- month files with these intervals
abbrev pub with_rows : (m : Months) (rows : List Interval) → are_named m.files.items ≡ true → AreKnown m.files.items rows m.known.items → Months
with_rows m rows named known_are = record { files = m.files; rows = rows; known = m.known; named = named; known_are = known_are }

-- taken apart and put together again
pub restored : (old m : Months) (rows : List Interval) → m ≡ old → rows ≡ m.rows → (named : are_named m.files.items ≡ true) (known_are : AreKnown m.files.items rows m.known.items) → with_rows m rows named known_are ≡ old
restored old m rows is same named known_are =
    subst (λ (l : List Interval). (k : AreKnown m.files.items l m.known.items) → with_rows m l named k ≡ old) (sym same) (λ k. whole k ∙ is) known_are
  where
    whole : (k : AreKnown m.files.items m.rows m.known.items) → with_rows m m.rows named k ≡ m
    whole k = λ i. with_rows m m.rows (named_once m.files.items named m.named i) (known_once m.files.items m.rows m.known.items k m.known_are i)

pub edit_holds : (files : Files) (changes : List FileChange) (old new : Months) (edit : Edit) (after : List MonthFile) (rows : List Interval) → rows ≡ old.rows → new.files.items ≡ after → new.rows ≡ edited edit rows
    → files_of after ≡ months_in (replaced files changes) → rows_of (replaced files changes) ≡ Ok (edited edit old.rows) → HoldMonths (replaced files changes) new
edit_holds files changes old new edit after rows same files_new rows_new files_are rows_are = record {
  files_are = ap files_of files_new ∙ files_are;
  rows_are = rows_are ∙ ap Ok (sym (rows_new ∙ ap (edited edit) same));
}
