-- A file as a disk. It tells nothing of its content.
use Rattle.std.specs.Prelude.{◌≡◌, ℕ, [], true, false}
use Rattle.tw_world.specs.Disk.{DiskModel}
use Rattle.tw_files.specs.declared.file_disk.FileDisk.{FileDisk}

abbrev pub file_model : {F : Type 0} {p : _} → DiskModel (FileDisk F p)
file_model = record {
  faults = λ d. d.faults;
  len = λ d. d.len;
  tells = λ d. false;
  seen = λ d. [];
  leaves = λ d c. ⊥;
  moment = λ d. 0;
  left_since = λ d t c. ⊥;
}

pub none_told : {A : Type 0} → false ≡ true → A
none_told h = absurd (cc)

abbrev pub disk_file : {F : Type 0} {p : _} → FileDisk F p → F
disk_file disk = disk.file

abbrev pub disk_len : {F : Type 0} {p : _} → FileDisk F p → ℕ
disk_len disk = disk.len
