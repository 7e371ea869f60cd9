-- The body that is written for a step is read as that step.
use Rattle.std.proofs.Common.{◌≡◌, ℕ, ◌+◌, ◌^◌, ◌<◌, ◌≤◌, true, false, cond, ltb, List, [], ◌++◌, length, Some, None, refl, sym, ap, ◌∙◌, append_assoc, arith}
use Rattle.std.specs.List.{flat_map}
use Rattle.std.specs.Int.{w32, to_be_bytes}
use Rattle.std.proofs.lemmas.Bool.{le-ltb}
use Rattle.std.proofs.lemmas.List.{take_at, drop_at, append-nil, length-append}
use Rattle.tw_fields.specs.Fields.{field_bytes}
use Rattle.tw_fields.specs.Reading.{bytes_at, many_at}
use Rattle.tw_fields.proofs.FieldsAgain.{four_again, many_again, few}
use Rattle.timew_month.specs.Body.{FileChange, Step, file_bytes, files_bytes, body_of, AreMonths, names_rise, named, file_at, files_of, step_of}
use Rattle.timew_interval.specs.MonthName.{is_month_name}
use Rattle.timew_month.specs.Body.Step.{Change, Undo}
use Rattle.timew_store.specs.Loading.{files_in}

bytes_again : (bytes rest : List ℕ) → length bytes < 2 ^ 32 → bytes_at (field_bytes bytes ++ rest) ≡ Some (bytes, rest)
unfolding bytes_at
bytes_again bytes rest lt =
    let long : ltb (length (bytes ++ rest)) (length bytes) ≡ false = le-ltb _ _ (omega (arith, length-append bytes rest)) in
    ap bytes_at (append_assoc (to_be_bytes w32 (length bytes)) bytes rest)
    ∙ rw (four_again (length bytes) (bytes ++ rest) lt, long, take_at bytes rest (length bytes) refl, drop_at bytes rest (length bytes) refl) refl

length_field : (bytes : List ℕ) → length (field_bytes bytes) ≡ 4 + length bytes
length_field bytes = length-append (to_be_bytes w32 (length bytes)) bytes

length_file : (f : FileChange) → length (file_bytes f) ≡ 4 + length f.name + (4 + length f.old + (4 + length f.new))
length_file f = length-append (field_bytes f.name) (field_bytes f.old ++ field_bytes f.new) ∙ omega (arith, length_field f.name, length-append (field_bytes f.old) (field_bytes f.new), length_field f.old, length_field f.new)

file_again : (f : FileChange) (rest : List ℕ) → is_month_name f.name ≡ true → length (file_bytes f) < 2 ^ 32 → file_at (file_bytes f ++ rest) ≡ Some (f, rest)
unfolding file_at
file_again f rest is lt =
    let size = length_file f in
    let month : named f.name ≡ Some f.name = ap (λ b. cond b (Some f.name) None) is in
    ap file_at (append_assoc (field_bytes f.name) (field_bytes f.old ++ field_bytes f.new) rest ∙ ap (λ (l : List ℕ). field_bytes f.name ++ l) (append_assoc (field_bytes f.old) (field_bytes f.new) rest))
    ∙ rw (bytes_again f.name (field_bytes f.old ++ (field_bytes f.new ++ rest)) (omega arith), bytes_again f.old (field_bytes f.new ++ rest) (omega arith), bytes_again f.new rest (omega arith), month) refl

again : (f : FileChange) (rest : List ℕ) → (is_month_name f.name ≡ true) × (length (file_bytes f) < 2 ^ 32) → file_at (file_bytes f ++ rest) ≡ Some (f, rest)
again f rest fits = file_again f rest fits.0 fits.1

files_again : (files : List FileChange) (rest : List ℕ) → AreMonths files → length (flat_map file_bytes files) < 2 ^ 32 → many_at file_at (length files) (flat_map file_bytes files ++ rest) ≡ Some (files, rest)
files_again files rest are lt = many_again file_at file_bytes (λ (f : FileChange). is_month_name f.name ≡ true) again files rest are lt

-- there are no more files than bytes
few_files : (files : List FileChange) → length files ≤ length (flat_map file_bytes files)
few_files files = few file_at file_bytes (λ (f : FileChange). is_month_name f.name ≡ true) again files (λ (f : FileChange). omega (arith, length_file f))

all_again : (files : List FileChange) → AreMonths files → names_rise files ≡ true → length (files_bytes files) < 2 ^ 32 → files_of (files_bytes files) ≡ Some files
unfolding files_of
all_again files are rise lt =
    let sum : length (files_bytes files) ≡ 4 + length (flat_map file_bytes files) = length-append (to_be_bytes w32 (length files)) (flat_map file_bytes files) in
    let back : many_at file_at (length files) (flat_map file_bytes files) ≡ Some (files, []) = ap (many_at file_at (length files)) (sym (append-nil (flat_map file_bytes files))) ∙ files_again files [] are (omega arith) in
    rw (four_again (length files) (flat_map file_bytes files) (omega (arith, few_files files)), back, rise) refl

pub step_again : (s : Step) → AreMonths (files_in s) → names_rise (files_in s) ≡ true → length (body_of s) < 2 ^ 32 → step_of (body_of s) ≡ Some s
unfolding step_of
step_again (Change files) are rise lt = rw (all_again files are rise (omega arith)) refl
step_again (Undo files) are rise lt = rw (all_again files are rise (omega arith)) refl
