-- A folder in memory: what it means, and the laws of that.
use Rattle.std.specs.Prelude.{◌≡◌, ◌≤◌, ℕ, Bool, List, [], ◌∷◌, ◌++◌, true, length, take, Option, Some, cond}
use Rattle.std.specs.FinMap.{empty, insert}
use Rattle.std.proofs.Common.{arith, sym, ◌∙◌, ap, String, Vec, Global}
use Rattle.std.specs.String.{string_bytes}
use Rattle.std.proofs.lemmas.List.{take_all}
use Rattle.tw_world.specs.Calls.{is_to_fail, counted, failed}
use Rattle.tw_world.specs.Folder.{Files, FolderModel, same_bytes}
use Rattle.tw_world.specs.declared.memory_folder.MemoryFolder.{MemoryFolder}

-- a file that was put: its name and its bytes
abbrev pub Put : Type 0
Put = String Global × Vec ℕ Global

-- the files after these were put, the first one first
abbrev pub after : Files → List Put → Files
after files [] = files
after files (p ∷ puts) = after (insert files (string_bytes p.0) p.1.items) puts

-- the files of a folder in memory
abbrev pub held_files : MemoryFolder → Files
held_files f = after empty f.puts.items

-- what the folder was after so many puts since a moment
abbrev pub left_by : List Put → ℕ → Files → Type 0
left_by puts t c = (k : ℕ) × (t ≤ k) × (k ≤ length puts) × (c ≡ after empty (take k puts))

abbrev pub memory_folder_model : FolderModel MemoryFolder
memory_folder_model = record {
  faults = λ f. f.calls.faults;
  tells = λ f. true;
  seen = held_files;
  leaves = λ f c. c ≡ held_files f;
  moment = λ f. length f.puts.items;
  left_since = λ f t c. left_by f.puts.items t c;
}

pub folder_counts_now : (folder : MemoryFolder) (t : ℕ) (c : Files) → t ≤ length folder.puts.items → c ≡ held_files folder → left_by folder.puts.items t c
folder_counts_now folder t c le same =
    let puts = folder.puts.items in
    (length puts, le, omega arith, same ∙ ap (after empty) (sym (take_all (length puts) puts (omega arith))))

pub folder_only_now : (folder : MemoryFolder) (c : Files) → left_by folder.puts.items (length folder.puts.items) c → c ≡ held_files folder
folder_only_now folder c (k, le, more, is) = is ∙ ap (after empty) (take_all k folder.puts.items le)

-- the bytes of a file that was put under this name, or else those that were found before
abbrev pub newer : List ℕ → Put → Option (List ℕ) → Option (List ℕ)
newer name p found = cond (same_bytes name (string_bytes p.0)) (Some p.1.items) found

-- the bytes that were put last under a name
abbrev pub last_put : List ℕ → List Put → Option (List ℕ) → Option (List ℕ)
last_put name [] so_far = so_far
last_put name (p ∷ puts) so_far = last_put name puts (newer name p so_far)

-- one file more was put
pub record IsPut (name bytes : List ℕ) (old new : List Put) : Type 0 where
  pub one : Put
  pub longer : new ≡ old ++ one ∷ []
  pub name_is : string_bytes one.0 ≡ name
  pub bytes_are : one.1.items ≡ bytes

-- how many calls were made
abbrev pub folder_calls : MemoryFolder → ℕ
folder_calls f = f.calls.made

-- the numbers of the calls that are to fail
abbrev pub folder_fails : MemoryFolder → List ℕ
folder_fails f = f.calls.fails.items

-- a new folder, with these files, and whose calls with these numbers are to fail
abbrev pub IsNewFolder : List Put → (fails : List ℕ) → MemoryFolder → Type 0
IsNewFolder content fails f = (held_files f ≡ after empty content) × (folder_calls f ≡ 0) × (folder_fails f ≡ fails) × (memory_folder_model.faults f ≡ 0)

-- is the next call one that is to fail?
abbrev pub folder_due : MemoryFolder → Bool
folder_due f = is_to_fail (folder_fails f) (folder_calls f)

-- only the count of calls and that of faults went up
abbrev pub FolderRefused : MemoryFolder → MemoryFolder → Type 0
FolderRefused old new = new ≡ record old { calls = failed (counted old.calls) }
