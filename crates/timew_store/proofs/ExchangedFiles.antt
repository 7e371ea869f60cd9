-- The old and the new bytes of files, exchanged.
use Rattle.std.specs.Prelude.{cond}
use Rattle.std.proofs.Common.{◌≡◌, ℕ, Bool, true, false, ◌&&◌, List, [], ◌∷◌, Option, Some, None, refl, ap, ◌∙◌, arith}
use Rattle.tw_world.specs.Disk as disk
use Rattle.tw_world.proofs.Moments as moments
use Rattle.std.specs.Ordering.{is_lt}
use Rattle.tw_world.specs.Folder.{Files, same_bytes, bytes_cmp}
use Rattle.tw_journal.specs.declared.error.ReadError.TheVariants as reads
use Rattle.tw_journal.specs.declared.error.JournalError.TheVariants as cause
use Rattle.timew_month.specs.Body.{FileChange, AreMonths, names_rise, rises_from}
use Rattle.timew_month.specs.Gathered.{months_in}
use Rattle.timew_store.specs.Held.{HasOld}
use Rattle.timew_month.specs.Files.{bytes_of}
use Rattle.timew_store.specs.History.{exchanged, same_files}
use Rattle.timew_month.specs.NamedFiles.{first_edited_in}
use Rattle.timew_store.specs.Undo.{first_edited}
use Rattle.timew_month.specs.declared.read.rows.RowsError.TheVariants as read
use Rattle.timew_store.specs.declared.error.StoreError.TheVariants as write
use Rattle.timew_store.specs.declared.error.UndoError.TheVariants as undo
use Rattle.timew_month.proofs.ChangesByName.{bytes_kept}
use Rattle.timew_interval.proofs.SameBytes.{same_bytes_exact, same_bytes_itself}

-- ---- old and new exchanged

pub exchanged_rise : (files : List FileChange) → names_rise (exchanged files) ≡ names_rise files
exchanged_rise [] = refl
exchanged_rise (f ∷ files) = over f.name files
  where
    over : (name : List ℕ) (files : List FileChange) → rises_from name (exchanged files) ≡ rises_from name files
    over name [] = refl
    over name (f ∷ files) = ap (λ (b : Bool). is_lt (bytes_cmp name f.name) && b) (over f.name files)

pub exchanged_months : (files : List FileChange) → AreMonths files → AreMonths (exchanged files)
exchanged_months [] are = tt
exchanged_months (f ∷ files) are = (are.0, exchanged_months files are.1)

pub same_itself : (files : List FileChange) → same_files files files ≡ true
same_itself [] = refl
same_itself (f ∷ files) =
    ap (λ (b : Bool). (b && same_bytes f.old f.old && same_bytes f.new f.new) && same_files files files) (same_bytes_itself f.name)
    ∙ ap (λ (b : Bool). (b && same_bytes f.new f.new) && same_files files files) (same_bytes_itself f.old)
    ∙ ap (λ (b : Bool). b && same_files files files) (same_bytes_itself f.new)
    ∙ same_itself files

pub edited_none : (files : Files) (change : List FileChange) → first_edited files change ≡ None → HasOld files (exchanged change)
edited_none files [] none = tt
edited_none files (f ∷ change) none = by_case (same_bytes (bytes_of files f.name) f.new) refl none (edited_none files change)
  where
    by_case : (b : Bool) → same_bytes (bytes_of files f.name) f.new ≡ b → cond b (first_edited files change) (Some f.name) ≡ None → (first_edited files change ≡ None → HasOld files (exchanged change)) → HasOld files (exchanged (f ∷ change))
    by_case true is none rest = (same_bytes_exact (bytes_of files f.name) f.new is, rest none)
    by_case false is none rest = absurd (cc)

pub edited_kept : (files : Files) (change : List FileChange) → AreMonths change → first_edited_in (months_in files) change ≡ first_edited files change
edited_kept files [] are = refl
edited_kept files (f ∷ change) are =
    ap (λ (b : List ℕ). cond (same_bytes b f.new) (first_edited_in (months_in files) change) (Some f.name)) (bytes_kept files f.name are.0)
    ∙ ap (λ (o : Option (List ℕ)). cond (same_bytes (bytes_of files f.name) f.new) o (Some f.name)) (edited_kept files change are.1)
