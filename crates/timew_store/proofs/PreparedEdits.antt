-- An edit that is prepared, and what its writing leads to.
use Rattle.std.proofs.Common.{◌≡◌, ◌≤◌, ◌<◌, ◌+◌, ◌^◌, ℕ, true, false, List, [], ◌∷◌, length, refl, sym, ap, subst, ◌∙◌, arith}
use Rattle.std.specs.Prelude.{Ok}
use Rattle.std.specs.Global.{Vec}
use Rattle.tw_world.specs.Disk.{DiskModel, Rose}
use Rattle.tw_world.specs.Folder.{FolderModel}
use Rattle.tw_journal.specs.Record.{rows}
use Rattle.tw_journal.specs.declared.journal.Journal.{Journal}
use Rattle.tw_journal.specs.declared.error.JournalError.{JournalError}
use Rattle.tw_journal.specs.declared.error.JournalError.TheVariants as cause
use Rattle.timew_month.specs.Body.{FileChange, body_of}
use Rattle.timew_month.specs.Body.Step.{Change}
use Rattle.timew_month.specs.Changes.{changes_to}
use Rattle.timew_interval.specs.Edit.{edited}
use Rattle.timew_interval.specs.Interval.{AreRows}
use Rattle.timew_month.specs.Known.{AreKnown}
use Rattle.timew_month.specs.NamedFiles.{are_named, with_changes}
use Rattle.timew_month.specs.Gathered.{files_of}
use Rattle.timew_store.specs.Prepared.{IsPreparedEdit, HoldNext, IsDeviceFault}
use Rattle.timew_store.specs.Store.{HoldMonths, change_bodies}
use Rattle.timew_month.specs.Records.{changes_of}
use Rattle.timew_store.specs.Writing.{WriteRefused}
use Rattle.timew_interval.specs.declared.edit.Edit.{Edit}
use Rattle.timew_store.specs.declared.error.StoreError.{StoreError}
use Rattle.timew_store.specs.declared.error.StoreError.TheVariants as store
use Rattle.timew_interval.specs.declared.interval.Interval.{Interval}
use Rattle.timew_month.specs.declared.months.KnownText.{KnownText}
use Rattle.timew_month.specs.declared.months.MonthFile.{MonthFile}
use Rattle.timew_month.specs.declared.months.Months.{Months}
use Rattle.timew_store.specs.declared.write.prepared.PreparedEdit.{PreparedEdit}
use Rattle.timew_month.proofs.MonthsPut.{months_changed}
use Rattle.timew_store.proofs.Growth.{change_size}
use Rattle.timew_store.proofs.RestoredStore.{named_once, known_once}

-- ---- the months before and after

abbrev pub months_of : (files : Vec MonthFile) (rows : List Interval) (known : Vec KnownText) → are_named files.items ≡ true → AreKnown files.items rows known.items → Months
months_of files rows known named known_are = record { files = files; rows = rows; known = known; named = named; known_are = known_are }

-- the parts of months are put together again
pub put_back : (months : Months) (files : Vec MonthFile) (rows : List Interval) (known : Vec KnownText) → files ≡ months.files → rows ≡ months.rows → known ≡ months.known
    → (named : are_named files.items ≡ true) (known_are : AreKnown files.items rows known.items) → months_of files rows known named known_are ≡ months
put_back months files rows known same_files same_rows same_known =
    subst (λ (f : Vec MonthFile). (n : are_named f.items ≡ true) (k : AreKnown f.items rows known.items) → months_of f rows known n k ≡ months) (sym same_files)
    (subst (λ (r : List Interval). (n : are_named months.files.items ≡ true) (k : AreKnown months.files.items r known.items) → months_of months.files r known n k ≡ months) (sym same_rows)
    (subst (λ (v : Vec KnownText). (n : are_named months.files.items ≡ true) (k : AreKnown months.files.items months.rows v.items) → months_of months.files months.rows v n k ≡ months) (sym same_known) whole))
  where
    whole : (n : are_named months.files.items ≡ true) (k : AreKnown months.files.items months.rows months.known.items) → months_of months.files months.rows months.known n k ≡ months
    whole n k = λ i. months_of months.files months.rows months.known (named_once months.files.items n months.named i) (known_once months.files.items months.rows months.known.items k months.known_are i)

pub still_named : (months : Months) (edit : Edit) (p : PreparedEdit) → IsPreparedEdit months edit p → are_named p.files.items ≡ true
still_named months edit p is = ap (λ (v : Vec MonthFile). are_named v.items) is.files ∙ months.named

pub still_known : (months : Months) (edit : Edit) (p : PreparedEdit) → IsPreparedEdit months edit p → AreKnown p.files.items p.rows.items p.known.items
still_known months edit p is =
    subst (λ (f : Vec MonthFile). AreKnown f.items p.rows.items p.known.items) (sym is.files)
    (subst (λ (r : List Interval). AreKnown months.files.items r p.known.items) (sym is.rows)
    (subst (λ (v : Vec KnownText). AreKnown months.files.items months.rows v.items) (sym is.known) months.known_are))

pub inside : (months : Months) (edit : Edit) (p : PreparedEdit) → IsPreparedEdit months edit p → p.edit.at + p.edit.count ≤ length p.rows.items
inside months edit p is =
    subst (λ (e : Edit). e.at + e.count ≤ length p.rows.items) (sym is.edit_is) (subst (λ (r : List Interval). edit.at + edit.count ≤ length r) (sym is.rows) is.edits.inside)

-- the intervals after the edit
pub next_rows : (months : Months) (edit : Edit) (p : PreparedEdit) (next : List Interval) → IsPreparedEdit months edit p → next ≡ edited p.edit p.rows.items → next ≡ edited edit months.rows
next_rows months edit p next is made = made ∙ ap (λ (e : Edit). edited e p.rows.items) is.edit_is ∙ ap (edited edit) is.rows

pub next_are : (months : Months) (edit : Edit) (p : PreparedEdit) → IsPreparedEdit months edit p → AreRows (edited p.edit p.rows.items)
next_are months edit p is = subst AreRows (sym (next_rows months edit p (edited p.edit p.rows.items) is refl)) is.edits.are

pub hold_next : (months : Months) (edit : Edit) (p : PreparedEdit) (new : Months) → IsPreparedEdit months edit p
    → files_of new.files.items ≡ with_changes (files_of p.files.items) (changes_of p.changes.items) → new.rows ≡ edited p.edit p.rows.items → HoldNext p months new
hold_next months edit p new is files rows_are = λ folder hold. record {
  files_are = files ∙ ap (λ (v : Vec MonthFile). with_changes (files_of v.items) (changes_of p.changes.items)) is.files
      ∙ ap (λ (k : _). with_changes k (changes_of p.changes.items)) hold.files_are ∙ months_changed (changes_of p.changes.items) folder is.named;
  rows_are = is.hold folder hold ∙ ap Ok (sym (next_rows months edit p new.rows is rows_are));
}

-- ---- faults

module _ {F D : Type 0} (m : FolderModel F) (n : DiskModel D) where
  pub device_fault : (j0 j1 : Journal) (f0 f1 : F) (d0 d1 : D) (body : List ℕ) (e : StoreError) → WriteRefused m n j0 j1 f0 f1 d0 d1 body e → j0.closed ≡ false → length body + 5 ≤ 2 ^ 30 → IsDeviceFault m n f0 f1 d0 d1 e
  device_fault j0 j1 f0 f1 d0 d1 body store.Folder r live fits = r.0
  device_fault j0 j1 f0 f1 d0 d1 body (store.Journal cause.Disk) r live fits = (r.0.0, r.1)
  device_fault j0 j1 f0 f1 d0 d1 body (store.Journal cause.Closed) r live fits = apart r.0.0
    where
      apart : j0.closed ≡ true → ⊥
      apart closed = cc
  device_fault j0 j1 f0 f1 d0 d1 body (store.Journal (cause.Damaged offset)) r live fits = r.0
  device_fault j0 j1 f0 f1 d0 d1 body (store.Journal (cause.TooLong bytes)) r live fits = omega (arith, r.0.1, fits)
  device_fault j0 j1 f0 f1 d0 d1 body (store.Journal cause.Memory) r live fits = r.0
  device_fault j0 j1 f0 f1 d0 d1 body store.Memory r live fits = r

  -- a fault of the journal is one of its disk
  pub disk_fault : (f0 f1 : F) (d0 d1 : D) (e : JournalError) → IsDeviceFault m n f0 f1 d0 d1 (store.Journal e) → Rose (n.faults d0) (n.faults d1) × (f1 ≡ f0)
  disk_fault f0 f1 d0 d1 cause.Disk fault = fault
  disk_fault f0 f1 d0 d1 cause.Closed fault = absurd fault
  disk_fault f0 f1 d0 d1 (cause.Damaged offset) fault = absurd fault
  disk_fault f0 f1 d0 d1 (cause.TooLong bytes) fault = absurd fault
  disk_fault f0 f1 d0 d1 cause.Memory fault = absurd fault

-- ---- a record above the limit

-- the body of a change that changes nothing is short
short_body : (changes : List FileChange) (body : List ℕ) → body ≡ body_of (Change changes) → 2 ^ 30 < length body + 5 → length changes ≡ 0 → ⊥
short_body [] body is long none = let five : length body ≡ 5 = ap length is in absurd (omega (arith, five, long))
short_body (f ∷ changes) body is long none = absurd (omega (arith, none))

pub too_long : (months : Months) (edit : Edit) (p : PreparedEdit) (bytes : ℕ) → IsPreparedEdit months edit p → bytes ≡ length p.body.items + 5 → 2 ^ 30 < bytes
    → (files : _) → HoldMonths files months → bytes ≡ length (rows (change_bodies (changes_to files (edited edit months.rows))))
too_long months edit p bytes is size long files hold =
    let some : length (changes_of p.changes.items) ≡ 0 → ⊥ = short_body (changes_of p.changes.items) p.body.items is.body (omega (arith, size, long)) in
    size ∙ sym (change_size (changes_of p.changes.items) p.body.items some is.body files (edited edit months.rows) (is.changes files hold))
