-- Finishing files one after another.
use Rattle.std.proofs.Common.{◌≡◌, ◌⊎◌, ⊎_elim, ℕ, ◌+◌, ◌<◌, List, [], ◌∷◌, ◌++◌, length, take, get_or, refl, sym, ap, ◌∙◌, arith}
use Rattle.std.proofs.lemmas.List.{take_more, length-map, get_or-map}
use Rattle.tw_world.specs.Crash.{Tells, IsStable, LeavesOnly, FaultsRise}
use Rattle.tw_world.specs.Folder.{Files, FolderModel}
use Rattle.tw_world.proofs.Crashes.{OnlyNow, started, joined, weaker}
use Rattle.timew_month.specs.Body.{FileChange}
use Rattle.timew_store.specs.Held.{finished, finished_file}
use Rattle.timew_store.specs.Loading.{IsFinishedTo, Finishing}
use Rattle.timew_month.specs.Records.{change_of, changes_of}
use Rattle.timew_month.specs.declared.months.NewFile.{NewFile}

finished-push : (changes : List FileChange) (files : Files) (f : FileChange) → finished files (changes ++ f ∷ []) ≡ finished_file (finished files changes) f
finished-push [] files f = refl
finished-push (g ∷ changes) files f = finished-push changes (finished_file files g) f

-- one file more
pub finished_more : (items : List NewFile) (i : ℕ) (file : NewFile) (files : Files) → i < length items → file ≡ get_or items i file
    → finished files (take (i + 1) (changes_of items)) ≡ finished_file (finished files (take i (changes_of items))) (change_of file)
finished_more items i file files lt is =
    let one : change_of file ≡ get_or (changes_of items) i (change_of file) = ap change_of is ∙ sym (get_or-map change_of items i file (change_of file) lt) in
    ap (finished files) (take_more (changes_of items) i (change_of file) (omega (arith, length-map items change_of)) ∙ ap (λ (f : FileChange). take i (changes_of items) ++ f ∷ []) (sym one))
    ∙ finished-push (take i (changes_of items)) files (change_of file)

module _ {F : Type 0} (m : FolderModel F) (only_now : OnlyNow m) where
  pub none_yet : (changes : List FileChange) (folder : F) → Finishing m changes folder folder 0
  none_yet changes folder = record {
    faults = record { faults = omega arith; tells = refl };
    seen = λ tells. refl;
    stable = λ tells settled. settled;
    moments = λ tells settled. started m only_now folder (IsFinishedTo changes (m.seen folder)) (λ c left. (0, omega arith, settled c left));
  }

  module _ (items : List NewFile) (first now later : F) (i : ℕ) (file : NewFile) (so_far : Finishing m (changes_of items) first now i) (lt : i < length items) (is : file ≡ get_or items i file)
      (kept : FaultsRise m now later) (moments : Tells m now → IsStable m now → LeavesOnly m now later (λ x. (x ≡ m.seen now) ⊎ (x ≡ finished_file (m.seen now) (change_of file)))) where
    told : Tells m first → Tells m now
    told tells = so_far.faults.tells ∙ tells

    step_is : Tells m first → finished_file (m.seen now) (change_of file) ≡ finished (m.seen first) (take (i + 1) (changes_of items))
    step_is tells = ap (λ (s : Files). finished_file s (change_of file)) (so_far.seen tells) ∙ sym (finished_more items i file (m.seen first) lt is)

    pub so_far_too : Tells m first → IsStable m first → LeavesOnly m first later (IsFinishedTo (changes_of items) (m.seen first))
    so_far_too tells settled = joined m first now later (IsFinishedTo (changes_of items) (m.seen first)) (so_far.moments tells settled)
        (weaker m now later _ (IsFinishedTo (changes_of items) (m.seen first)) (moments (told tells) (so_far.stable tells settled)) (λ x has. ⊎_elim
        (λ same. (i, omega (arith, lt, length-map items change_of), same ∙ so_far.seen tells))
        (λ goes. (i + 1, omega (arith, lt, length-map items change_of), goes ∙ step_is tells)) has))

    pub seen_so_far : (Tells m now → (m.seen later ≡ m.seen now) ⊎ (m.seen later ≡ finished_file (m.seen now) (change_of file))) → Tells m first → IsFinishedTo (changes_of items) (m.seen first) (m.seen later)
    seen_so_far either tells = ⊎_elim
        (λ same. (i, omega (arith, lt, length-map items change_of), same ∙ so_far.seen tells))
        (λ goes. (i + 1, omega (arith, lt, length-map items change_of), goes ∙ step_is tells)) (either (told tells))

    pub kept_too : FaultsRise m first later
    kept_too = record { faults = omega (arith, so_far.faults.faults, kept.faults); tells = kept.tells ∙ so_far.faults.tells }

    pub one_more : (Tells m now → m.seen later ≡ finished_file (m.seen now) (change_of file)) → (Tells m now → IsStable m now → IsStable m later) → Finishing m (changes_of items) first later (i + 1)
    one_more done settled_now = record {
      faults = kept_too;
      seen = λ tells. done (told tells) ∙ step_is tells;
      stable = λ tells settled. settled_now (told tells) (so_far.stable tells settled);
      moments = so_far_too;
    }
