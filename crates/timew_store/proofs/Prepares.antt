-- A change that is prepared, and a store that has made it.
use Rattle.std.specs.Prelude.{cond}
use Rattle.std.proofs.Common.{◌≡◌, inl, ℕ, ◌^◌, ◌<◌, Bool, true, false, List, [], ◌∷◌, ◌++◌, length, Option, refl, sym, ap, subst, ◌∙◌, arith}
use Rattle.std.proofs.lemmas.List.{append-nil, length-map}
use Rattle.std.proofs.lemmas.List.Concat.{flat_map-cons}
use Rattle.std.specs.List.{flat_map}
use Rattle.tw_world.specs.Disk.{DiskModel}
use Rattle.tw_world.specs.Turns.{InTurns, crash_of}
use Rattle.tw_world.specs.Turns.InTurns.{at_rest}
use Rattle.tw_world.specs.Folder.{Files, FolderModel, same_bytes}
use Rattle.tw_journal.specs.declared.journal.Journal.{Journal}
use Rattle.tw_journal.specs.declared.error.JournalError.TheVariants as cause
use Rattle.timew_interval.specs.declared.interval.Interval.{Interval}
use Rattle.timew_month.specs.declared.months.NewFile.{NewFile}
use Rattle.timew_store.specs.declared.store.Store.{Store}
use Rattle.timew_month.specs.Body.{FileChange, Step, AreMonths, body_of, names_rise, ◌>>=◌}
use Rattle.timew_month.specs.Body.Step.{Change}
use Rattle.timew_store.specs.History.{History, applied, stepped, with_change}
use Rattle.timew_store.specs.Held.{Held, OpensTo, OpensToEither, IsAtRest, held_by, finished, HasOld}
use Rattle.timew_month.specs.Files.{bytes_of, replaced}
use Rattle.timew_interval.specs.MonthName.{month_text}
use Rattle.timew_month.specs.Changes.{month_change, changes_to, all_names}
use Rattle.timew_month.specs.Records.{change_of, changes_of}
use Rattle.timew_store.specs.Writing.{AreFileNames, IsReadyFor, WriteRefused}
use Rattle.timew_store.specs.Store.{HoldMonths, IsStoreOn, IsMovedTo, IsChangeBody, ChangeRefused, with_any, changed, change_bodies}
use Rattle.timew_store.specs.declared.error.StoreError.{StoreError}
use Rattle.timew_store.specs.declared.error.StoreError.TheVariants as write
use Rattle.timew_store.proofs.AfterLoading.{rise_apart}
use Rattle.timew_interval.proofs.MonthForm.{month_file}
use Rattle.timew_month.proofs.RisingMonths.{changes_rise}
use Rattle.timew_store.proofs.StepAgain.{step_again}
use Rattle.timew_store.proofs.CrashOfChange.{open_records}

-- ---- the files of a change

each_old : (files : Files) (rows : List Interval) (names : List (List ℕ)) → HasOld files (flat_map (month_change files rows) names)
each_old files rows [] = tt
each_old files rows (n ∷ names) = subst (HasOld files) (sym (flat_map-cons (month_change files rows) n names)) (by_case (same_bytes (bytes_of files n) (month_text n rows)) (each_old files rows names))
  where
    by_case : (b : Bool) → HasOld files (flat_map (month_change files rows) names)
        → HasOld files (cond b [] (record { name = n; old = bytes_of files n; new = month_text n rows } ∷ []) ++ flat_map (month_change files rows) names)
    by_case true rest = rest
    by_case false rest = (refl, rest)

pub file_names : (items : List NewFile) → AreMonths (changes_of items) → AreFileNames items
file_names [] are = tt
file_names (f ∷ items) are = (month_file f.name are.0, file_names items are.1)

pub none_changed : (items : List NewFile) → length items ≡ 0 → length (changes_of items) ≡ 0
none_changed items none = omega (arith, length-map items change_of, none)

pub some_changed : (items : List NewFile) → (length items ≡ 0 → ⊥) → length (changes_of items) ≡ 0 → ⊥
some_changed items some none = some (omega (arith, length-map items change_of, none))

none_of : {A : Type 0} (xs : List A) → length xs ≡ 0 → xs ≡ []
none_of [] none = refl
none_of (x ∷ xs) none = absurd (omega (arith, none))

module _ {F D : Type 0} (m : FolderModel F) (n : DiskModel D) where
  -- a store that rests opens to what it holds
  pub opens_here : (journal : Journal) (f : F) (d : D) (bodies : List (List ℕ)) (history : History) (x : Files) (y : List ℕ) → IsAtRest m n journal f d bodies history → m.leaves f x → n.leaves d y → OpensTo x y (held_by m f history)
  opens_here journal f d bodies history x y rest left left' = record {
    bodies = bodies;
    records = open_records n journal d bodies y rest.open_on left';
    history = history;
    stands = rest.stands;
    files_are = ap (λ (s : Files). finished s history.last) (rest.stable x left) ∙ rest.whole;
    undoable_are = refl;
  }

  pub stays_here : (journal : Journal) (f : F) (d : D) (bodies : List (List ℕ)) (history : History) (other : Held) → IsAtRest m n journal f d bodies history → InTurns m (crash_of n) (OpensToEither (held_by m f history) other) f d f d
  stays_here journal f d bodies history other rest = at_rest f d (λ x y left left'. inl (opens_here journal f d bodies history x y rest left left'))

  -- ---- a change to intervals

  module _ (old : Store) (f0 : F) (d0 : D) (bodies : List (List ℕ)) (history : History) (on : IsStoreOn m n old f0 d0 bodies history) (next : List Interval) (changes : List FileChange) (are : changes ≡ changes_to (m.seen f0) next) where
    pub change_ready : (body : List ℕ) → body ≡ body_of (Change changes) → AreMonths changes → IsReadyFor m n old.journal f0 d0 bodies history (with_change changes history) body changes
    change_ready body body_is named =
        let rise : names_rise changes ≡ true = ap names_rise are ∙ changes_rise (m.seen f0) next in
        record {
          rest = on.rest;
          step = λ short. ap (λ (b : List ℕ). stepped history b) body_is ∙ ap (λ (o : Option Step). o >>= applied history) (step_again (Change changes) named rise (subst (λ (b : List ℕ). length b < 2 ^ 32) body_is short));
          last = refl;
          old = subst (HasOld (m.seen f0)) (sym are) (each_old (m.seen f0) next (all_names (m.seen f0) next));
          apart = rise_apart changes rise;
        }

    abbrev pub then : List FileChange → Held
    then c = record { files = replaced (m.seen f0) c; undoable = with_any c history.undoable }

    -- nothing changes
    pub moved_nowhere : (new : Store) → length changes ≡ 0 → new.journal ≡ old.journal → HoldMonths (replaced (m.seen f0) changes) new.months → IsMovedTo m n new f0 d0 (bodies ++ change_bodies (changes_to (m.seen f0) next)) (changed (held_by m f0 history) next)
    moved_nowhere new none same months =
        let empty : changes ≡ [] = none_of changes none in
        subst (λ (c : List FileChange). IsMovedTo m n new f0 d0 (bodies ++ change_bodies c) (then c)) (sym empty ∙ are)
        (record {
          history = history;
          on = record {
            rest = subst (λ (j : Journal). IsAtRest m n j f0 d0 (bodies ++ []) history) (sym same) (subst (λ (b : List (List ℕ)). IsAtRest m n old.journal f0 d0 b history) (sym (append-nil bodies)) on.rest);
            months = subst (λ (c : List FileChange). HoldMonths (replaced (m.seen f0) c) new.months) empty months;
          };
          holds = refl;
        })

    -- a record more
    pub moved_on : (new : Store) (f1 : F) (d1 : D) (body : List ℕ) → (length changes ≡ 0 → ⊥) → body ≡ body_of (Change changes) → HoldMonths (replaced (m.seen f0) changes) new.months → m.seen f1 ≡ replaced (m.seen f0) changes
        → IsAtRest m n new.journal f1 d1 (bodies ++ body ∷ []) (with_change changes history) → IsMovedTo m n new f1 d1 (bodies ++ change_bodies (changes_to (m.seen f0) next)) (changed (held_by m f0 history) next)
    moved_on new f1 d1 body some body_is months seen rest =
        subst (λ (c : List FileChange). IsMovedTo m n new f1 d1 (bodies ++ change_bodies c) (then c)) are (by_case changes some body_is months seen rest)
      where
        by_case : (c : List FileChange) → (length c ≡ 0 → ⊥) → body ≡ body_of (Change c) → HoldMonths (replaced (m.seen f0) c) new.months → m.seen f1 ≡ replaced (m.seen f0) c
            → IsAtRest m n new.journal f1 d1 (bodies ++ body ∷ []) (with_change c history) → IsMovedTo m n new f1 d1 (bodies ++ change_bodies c) (then c)
        by_case [] some body_is months seen rest = absurd (some refl)
        by_case (f ∷ files) some body_is months seen rest = record {
          history = with_change (f ∷ files) history;
          on = record {
            rest = subst (λ (b : List ℕ). IsAtRest m n new.journal f1 d1 (bodies ++ b ∷ []) (with_change (f ∷ files) history)) body_is rest;
            months = subst (λ (s : Files). HoldMonths s new.months) (sym seen) months;
          };
          holds = ap (λ (s : Files). let h : Held = record { files = s; undoable = (f ∷ files) ∷ history.undoable } in h) seen;
        }

    pub either_on : (f1 : F) (d1 : D) → (length changes ≡ 0 → ⊥)
        → InTurns m (crash_of n) (OpensToEither (held_by m f0 history) (record { files = replaced (m.seen f0) changes; undoable = changes ∷ history.undoable })) f0 d0 f1 d1
        → InTurns m (crash_of n) (OpensToEither (held_by m f0 history) (changed (held_by m f0 history) next)) f0 d0 f1 d1
    either_on f1 d1 some run = subst (λ (c : List FileChange). InTurns m (crash_of n) (OpensToEither (held_by m f0 history) (then c)) f0 d0 f1 d1) are (by_case changes some run)
      where
        by_case : (c : List FileChange) → (length c ≡ 0 → ⊥) → InTurns m (crash_of n) (OpensToEither (held_by m f0 history) (record { files = replaced (m.seen f0) c; undoable = c ∷ history.undoable })) f0 d0 f1 d1
            → InTurns m (crash_of n) (OpensToEither (held_by m f0 history) (then c)) f0 d0 f1 d1
        by_case [] some run = absurd (some refl)
        by_case (f ∷ files) some run = run

    -- the body is that of the one record
    pub one_body : (body : List ℕ) → (length changes ≡ 0 → ⊥) → body ≡ body_of (Change changes) → change_bodies (changes_to (m.seen f0) next) ≡ body ∷ []
    one_body body some is = subst (λ (c : List FileChange). change_bodies c ≡ body ∷ []) are (by_case changes some is)
      where
        by_case : (c : List FileChange) → (length c ≡ 0 → ⊥) → body ≡ body_of (Change c) → change_bodies c ≡ body ∷ []
        by_case [] some is = absurd (some refl)
        by_case (f ∷ files) some is = ap (λ (b : List ℕ). b ∷ []) (sym is)

  pub change_refused : (old new : Store) (f0 f1 : F) (d0 d1 : D) (next : List Interval) (body : List ℕ) (e : StoreError) → IsChangeBody m n old f0 d0 next body → new.months ≡ old.months → WriteRefused m n old.journal new.journal f0 f1 d0 d1 body e
      → ChangeRefused m n old new f0 f1 d0 d1 next e
  change_refused old new f0 f1 d0 d1 next body write.Folder is same r = (r.0, (body, is, r.1))
  change_refused old new f0 f1 d0 d1 next body (write.Journal e) is same r = (r.1, (body, is, record { refused = r.0; months = same }))
  change_refused old new f0 f1 d0 d1 next body write.Memory is same r = absurd r

  -- a closed store is not open on any records
  pub change_closed : (store : Store) (f : F) (d : D) (next : List Interval) → store.journal.closed ≡ true → ChangeRefused m n store store f f d d next (write.Journal cause.Closed)
  change_closed store f d next closed = (refl, ([], λ bodies history on. absurd (apart on.rest.open_on.open_now), record { refused = (closed, refl, refl); months = refl }))
    where
      apart : store.journal.closed ≡ false → ⊥
      apart live = cc
