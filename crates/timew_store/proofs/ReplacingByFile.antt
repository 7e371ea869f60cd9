-- Replacing files one after another.
use Rattle.std.proofs.Common.{◌≡◌, ⊎_elim, ℕ, ◌+◌, ◌<◌, List, [], ◌∷◌, ◌++◌, length, take, get_or, refl, sym, ap, subst, ◌∙◌, arith}
use Rattle.std.proofs.lemmas.List.{take_more, length-map, get_or-map}
use Rattle.tw_world.specs.Crash.{Tells, IsStable, Steps, LeavesOnly, FaultsRise}
use Rattle.tw_world.specs.Folder.{Files, FolderModel, Replaced}
use Rattle.std.specs.FinMap.{insert}
use Rattle.tw_world.proofs.Crashes.{CountsNow, OnlyNow, started, goes_on, joined}
use Rattle.timew_month.specs.Body.{FileChange}
use Rattle.timew_month.specs.Files.{replaced, with_new}
use Rattle.timew_store.specs.Held.{IsPartly, Replacing}
use Rattle.timew_month.specs.Records.{change_of, changes_of}
use Rattle.timew_month.specs.declared.months.NewFile.{NewFile}

pub replaced-push : (changes : List FileChange) (files : Files) (f : FileChange) → replaced files (changes ++ f ∷ []) ≡ with_new (replaced files changes) f
replaced-push [] files f = refl
replaced-push (g ∷ changes) files f = replaced-push changes (with_new files g) f

-- one file more
pub replaced_more : (items : List NewFile) (i : ℕ) (file : NewFile) (files : Files) → i < length items → file ≡ get_or items i file
    → replaced files (take (i + 1) (changes_of items)) ≡ insert (replaced files (take i (changes_of items))) file.name file.new.items
replaced_more items i file files lt is =
    let one : change_of file ≡ get_or (changes_of items) i (change_of file) = ap change_of is ∙ sym (get_or-map change_of items i file (change_of file) lt) in
    ap (replaced files) (take_more (changes_of items) i (change_of file) (omega (arith, length-map items change_of)) ∙ ap (λ (f : FileChange). take i (changes_of items) ++ f ∷ []) (sym one))
    ∙ replaced-push (take i (changes_of items)) files (change_of file)

module _ {F : Type 0} (m : FolderModel F) (counts_now : CountsNow m) (only_now : OnlyNow m) where
  pub none_yet : (changes : List FileChange) (folder : F) → Replacing m changes folder folder 0
  none_yet changes folder = record {
    faults = record { faults = omega arith; tells = refl };
    seen = λ tells. refl;
    stable = λ tells settled. settled;
    moments = λ tells settled. started m only_now folder (IsPartly changes (m.seen folder)) (λ c left. (0, omega arith, settled c left));
  }

  module _ (items : List NewFile) (first now later : F) (i : ℕ) (file : NewFile) (so_far : Replacing m (changes_of items) first now i) (lt : i < length items) (is : file ≡ get_or items i file)
      (name bytes : List ℕ) (name_is : name ≡ file.name) (bytes_are : bytes ≡ file.new.items) (called : Steps m (Replaced name bytes) now later) where
    steps : Steps m (Replaced file.name file.new.items) now later
    steps = subst (λ (n : List ℕ). Steps m (Replaced n file.new.items) now later) name_is (subst (λ (b : List ℕ). Steps m (Replaced name b) now later) bytes_are called)

    told : Tells m first → Tells m now
    told tells = so_far.faults.tells ∙ tells

    -- a crash in the call leaves the file as it was, or replaced
    one_call : Tells m first → IsStable m first → LeavesOnly m now later (IsPartly (changes_of items) (m.seen first))
    one_call tells settled = goes_on m counts_now now now later (λ c. c ≡ m.seen now) (IsPartly (changes_of items) (m.seen first)) (Replaced file.name file.new.items)
        (started m only_now now (λ c. c ≡ m.seen now) (so_far.stable tells settled)) (told tells) steps
        (λ c same. (i, omega (arith, length-map items change_of), same ∙ so_far.seen tells))
        (λ d c same step. ⊎_elim
        (λ stays. (i, omega (arith, length-map items change_of), stays ∙ same ∙ so_far.seen tells))
        (λ goes. (i + 1, omega (arith, length-map items change_of), goes ∙ ap (λ (files : Files). insert files file.name file.new.items) (same ∙ so_far.seen tells) ∙ sym (replaced_more items i file (m.seen first) lt is)))
        step)

    pub so_far_too : Tells m first → IsStable m first → LeavesOnly m first later (IsPartly (changes_of items) (m.seen first))
    so_far_too tells settled = joined m first now later (IsPartly (changes_of items) (m.seen first)) (so_far.moments tells settled) (one_call tells settled)

    pub kept_too : FaultsRise m first later
    kept_too = record { faults = omega (arith, so_far.faults.faults, steps.faults); tells = steps.tells ∙ so_far.faults.tells }

    pub one_more : (Tells m now → m.seen later ≡ insert (m.seen now) name bytes) → (Tells m now → IsStable m later) → Replacing m (changes_of items) first later (i + 1)
    one_more done settled_now = record {
      faults = kept_too;
      seen = λ tells. done (told tells) ∙ ap (λ (n : List ℕ). insert (m.seen now) n bytes) name_is ∙ ap (insert (m.seen now) file.name) bytes_are ∙ ap (λ (files : Files). insert files file.name file.new.items) (so_far.seen tells) ∙ sym (replaced_more items i file (m.seen first) lt is);
      stable = λ tells settled. settled_now (told tells);
      moments = so_far_too;
    }
