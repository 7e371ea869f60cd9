-- What a refused load leaves.
use Rattle.std.proofs.Common.{◌≡◌, inl, inr, ℕ, List, Some, refl, sym, ap, subst, ◌∙◌}
use Rattle.tw_world.specs.Disk.{DiskModel}
use Rattle.tw_world.specs.Disk as disk
use Rattle.tw_world.specs.Crash.{Tells, Reads, FaultsRise}
use Rattle.tw_world.specs.Folder.{FolderModel}
use Rattle.tw_journal.specs.Errors.{open_in_all}
use Rattle.tw_journal.specs.Journal.{IsOpenOn, IsOpened}
use Rattle.tw_journal.specs.declared.journal.Journal.{Journal}
use Rattle.tw_journal.specs.declared.error.OpenError.{OpenError}
use Rattle.tw_journal.specs.declared.error.OpenError.TheVariants as opening
use Rattle.tw_journal.proofs.Offsets.{still_open, same_offset}
use Rattle.tw_journal.specs.Form.{Records, offset_in}
use Rattle.timew_month.specs.Body.{FileChange}
use Rattle.timew_store.specs.Held.{magic, OpensTo, AreApart}
use Rattle.timew_store.specs.Loading.{IsLoaded, IsFinishedTo, StoreSparesDisk, KeepsRecords, Stays, last_of}
use Rattle.timew_store.specs.Store.{not_loaded, LoadSparesDisk}
use Rattle.timew_store.specs.declared.error.StoreError.{StoreError}
use Rattle.timew_store.specs.declared.error.StoreError.TheVariants as store
use Rattle.timew_store.proofs.AfterLoading.{same_opens, finished_opens, all_finished}
use Rattle.timew_store.proofs.LoadRefusals.{stands, rest_kept, held_read}
use Rattle.timew_store.proofs.Prepares.{opens_here}
use Rattle.timew_store.proofs.CrashOfChange.{open_records}

-- the folder and the journal may be left as they are read
abbrev pub MayStay : {F : Type 0} → FolderModel F → Type 0
MayStay {F} m = (f : F) → Tells m f → m.leaves f (m.seen f)

abbrev pub DiskMayStay : {D : Type 0} → DiskModel D → Type 0
DiskMayStay {D} n = (d : D) → disk.Tells n d → n.leaves d (n.seen d)

spares_disk : (e : OpenError) → StoreSparesDisk (store.Journal (open_in_all e)) → e ≡ opening.Disk → ⊥
spares_disk opening.Disk spares is = spares
spares_disk (opening.Damaged offset) spares is = cc
spares_disk opening.Memory spares is = cc

module _ {F D : Type 0} (m : FolderModel F) (n : DiskModel D) (may_stay : DiskMayStay n) (f0 : F) (d0 : D) where
  -- the journal was not opened
  pub opening_stays : (d1 : D) (e : OpenError) → ((e ≡ opening.Disk → ⊥) → disk.Untouched n d0 d1) → StoreSparesDisk (store.Journal (open_in_all e)) → Stays m n f0 f0 d0 d1
  opening_stays d1 e untouched spares = record {
    opens = λ told settled tells held opens. subst (λ (y : List ℕ). OpensTo (m.seen f0) y held) (sym (same tells)) opens;
    files = λ told tells. inl refl;
    journal = λ tells. inl (same tells);
  }
    where
      same : disk.Tells n d0 → n.seen d1 ≡ n.seen d0
      same tells = (untouched (spares_disk e spares)).seen tells

  -- it was opened, and then only read
  module _ (mid d1 : D) (journal : Journal) (kept : disk.FaultsRise n d0 mid) (opened : disk.Tells n d0 → IsOpened n magic d0 mid journal) (untouched : disk.Untouched n mid d1) where
    on_now : (tells : disk.Tells n d0) → IsOpenOn n magic journal d1 (opened tells).bodies
    on_now tells = still_open n magic journal mid d1 (opened tells).bodies untouched (opened tells).now

    same_now : (tells : disk.Tells n d0) → Records magic (n.seen d1) (opened tells).bodies
    same_now tells = open_records n journal d1 (opened tells).bodies (n.seen d1) (on_now tells) (may_stay d1 (untouched.kept.tells ∙ kept.tells ∙ tells))

    keeps : disk.Tells n d0 → KeepsRecords (n.seen d0) (n.seen d1)
    keeps tells = record {
      bodies = (opened tells).bodies;
      had = (opened tells).records;
      has = same_now tells;
      offsets = λ k inside. ap (λ (s : List ℕ). offset_in magic s (opened tells).bodies k) (untouched.seen (kept.tells ∙ tells)) ∙ same_offset n magic d0 mid journal (opened tells) k inside;
    }

    pub opened_stays : Stays m n f0 f0 d0 d1
    opened_stays = record {
      opens = λ told settled tells held opens. same_opens m n f0 d0 tells settled (may_stay d0 tells) (m.seen f0) (n.seen d1) held refl ((opened tells).bodies, (opened tells).records, same_now tells) opens;
      files = λ told tells. inl refl;
      journal = λ tells. inr (keeps tells);
    }

    -- and some of the files were finished
    pub finishing_stays : (f1 : F) (changes : List FileChange) → ((bodies : List (List ℕ)) → IsOpenOn n magic journal mid bodies → last_of bodies ≡ Some changes) → AreApart changes
        → (Tells m f0 → IsFinishedTo changes (m.seen f0) (m.seen f1)) → Stays m n f0 f1 d0 d1
    finishing_stays f1 changes last apart partly = record {
      opens = λ told settled tells held opens.
          finished_opens m n f0 d0 tells settled (may_stay d0 tells) d1 journal (opened tells).bodies changes (opened tells).records (on_now tells) (last (opened tells).bodies (opened tells).now) apart (m.seen f1) (n.seen d1) held (partly told) (same_now tells) opens;
      files = λ told tells. inr (record { bodies = (opened tells).bodies; records = (opened tells).records; last = changes; last_is = last (opened tells).bodies (opened tells).now; partly = partly told });
      journal = λ tells. inr (keeps tells);
    }

  -- the month files are no intervals
  pub months_stay : MayStay m → (f1 f2 : F) (d1 : D) (journal : Journal) → FaultsRise m f0 f1 → disk.FaultsRise n d0 d1 → Reads m f1 f2 → (disk.Tells n d0 → IsLoaded m n f0 f1 d0 d1 journal) → Stays m n f0 f2 d0 d1
  months_stay folder_stays f1 f2 d1 journal folder kept reads loaded = record {
    opens = λ told settled tells held opens.
        let is = loaded tells in
        let rest = rest_kept m n journal f1 f2 d1 is.bodies opens.history reads (is.rest told settled opens.history (stands m n f0 f1 d0 d1 journal is told held opens)) in
        subst (OpensTo (m.seen f2) (n.seen d1)) (held_read m n f0 f1 d0 d1 journal is told held opens f2 (reads.seen (folder.tells ∙ told)))
        (opens_here m n journal f2 d1 is.bodies opens.history (m.seen f2) (n.seen d1) rest (folder_stays f2 (reads.steps.tells ∙ folder.tells ∙ told)) (may_stay d1 (kept.tells ∙ tells)));
    files = λ told tells.
        let is = loaded tells in
        inr (record { bodies = is.bodies; records = is.records; last = is.last; last_is = is.last_is; partly = all_finished is.last (m.seen f0) (m.seen f2) (reads.seen (folder.tells ∙ told) ∙ is.finished_now told) });
    journal = λ tells.
        let is = loaded tells in
        inr (record { bodies = is.bodies; had = is.records; has = open_records n journal d1 is.bodies (n.seen d1) is.open_on (may_stay d1 (kept.tells ∙ tells)); offsets = is.offsets });
  }

-- a load that is refused with the opening
pub spares_too : (e : StoreError) (P : Type 0) → (StoreSparesDisk e → P) → LoadSparesDisk (not_loaded e) → P
spares_too store.Folder P stays spares = stays tt
spares_too (store.Journal e) P stays spares = stays spares
spares_too store.Memory P stays spares = stays tt
