use Rattle.std.proofs.Common.{◌≡◌, List, ℕ, true, sym, subst}
use Rattle.tw_world.specs.Folder.{is_file_name}
use Rattle.timew_interval.proofs.MonthForm.{month_file}
use Rattle.timew_store.proofs.folder.read_file.Goals as goal

pub read-requires : goal.read-requires
read-requires g c = subst (λ (n : List ℕ). is_file_name n ≡ true) (sym c.as_str.ensures) (month_file c.args.name.now c.requires)
