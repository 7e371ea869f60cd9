-- A store that was loaded, over what its folder and disk opened to before.
use Rattle.std.proofs.Common.{◌≡◌, List, ℕ, sym, ap, subst, ◌∙◌}
use Rattle.tw_world.specs.Disk.{DiskModel}
use Rattle.tw_world.specs.Crash.{Tells, IsStable}
use Rattle.tw_world.specs.Folder.{Files, FolderModel}
use Rattle.tw_journal.proofs.Unique.{one_records}
use Rattle.timew_month.specs.Body.{FileChange}
use Rattle.timew_store.specs.History.{Stands}
use Rattle.timew_store.specs.Held.{magic, Held, OpensTo, held_by, finished}
use Rattle.timew_store.specs.Store.{IsStoreOn, IsLoadedStore}
use Rattle.timew_store.specs.declared.store.Store.{Store}
use Rattle.timew_store.proofs.AfterLoading.{same_last}

module _ {F D : Type 0} (m : FolderModel F) (n : DiskModel D) (store : Store) (f0 f1 : F) (d0 d1 : D) (loaded : IsLoadedStore m n f0 f1 d0 d1 store) (held : Held)
    (told : Tells m f0) (settled : IsStable m f0) (opens : OpensTo (m.seen f0) (n.seen d0) held) where
  stands : Stands loaded.bodies opens.history
  stands = subst (λ (b : List (List ℕ)). Stands b opens.history) (one_records magic (n.seen d0) opens.bodies loaded.bodies opens.records loaded.records) opens.stands

  pub loaded_on : IsStoreOn m n store f1 d1 loaded.bodies opens.history
  loaded_on = loaded.on told settled opens.history stands

  pub loaded_files : m.seen f1 ≡ held.files
  loaded_files = loaded.finished_now told ∙ ap (finished (m.seen f0)) (sym (same_last loaded.bodies loaded.last opens.history loaded.last_is stands)) ∙ opens.files_are

  pub loaded_held : held_by m f1 opens.history ≡ held
  loaded_held =
      ap (λ (s : Files). let h : Held = record { files = s; undoable = opens.history.undoable } in h) loaded_files
      ∙ ap (λ (u : List (List FileChange)). let h : Held = record { files = held.files; undoable = u } in h) opens.undoable_are
