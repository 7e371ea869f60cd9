-- How a command ends over a store that is open.
use Rattle.std.proofs.Common.{◌≡◌, inl, ℕ, zero, suc, ◌+◌, ◌<◌, true, false, List, [], ◌∷◌, ◌++◌, length, Option, Some, None, Result, Ok, Err, refl, sym, ap, subst, ◌∙◌, arith}
use Rattle.std.specs.Prelude.{slice_index_or, option_map}
use Rattle.std.proofs.lemmas.List.{append-nil}
use Rattle.tw_world.specs.Disk.{DiskModel, Rose}
use Rattle.tw_world.specs.Disk as disk
use Rattle.tw_world.specs.Folder.{Files, FolderModel}
use Rattle.tw_world.specs.Turns.{InTurns, crash_of}
use Rattle.tw_world.specs.Turns.InTurns.{at_rest}
use Rattle.tw_time.specs.Moments.{TimeZone}
use Rattle.timew_store.proofs.Prepares.{opens_here}
use Rattle.timew_store.proofs.Undoes.{rest_read}
use Rattle.tw_journal.specs.Journal.{is_closed}
use Rattle.tw_journal.specs.declared.error.JournalError.TheVariants as fault
use Rattle.timew_month.specs.Body.{Step, step_of, ◌>>=◌}
use Rattle.timew_store.specs.History.{History, applied, stepped, replayed}
use Rattle.timew_store.specs.Held.{Held, held_by}
use Rattle.timew_month.specs.Changes.{changes_to}
use Rattle.timew_month.specs.Rows.{rows_of}
use Rattle.timew_store.specs.Store.{IsStoreOn, IsMovedTo, IsChangeBody, intervals_of, changed, change_bodies, ChangeRefused}
use Rattle.timew_store.specs.StoreUndo.{undo_bodies, IsTakenBack, OpensToEitherOf, UndoRefused}
use Rattle.timew_store.specs.Undo.{NoUndo, undone_held}
use Rattle.timew_interval.specs.Edit.{edited}
use Rattle.timew_interval.specs.declared.edit.Edit.{Edit}
use Rattle.timew_interval.specs.declared.interval.Interval.{Interval}
use Rattle.timew_store.specs.declared.store.Store.{Store}
use Rattle.timew_store.specs.declared.error.StoreError.{StoreError}
use Rattle.timew_store.specs.declared.error.StoreError.TheVariants as write
use Rattle.timew_store.specs.declared.error.UndoError.{UndoError}
use Rattle.timew_store.specs.declared.error.UndoError.TheVariants as undo
use Rattle.timew_words.specs.declared.command.Command.{Command}
use Rattle.timew_words.specs.declared.command.Command.TheVariants.{Show}
use Rattle.timew_words.specs.declared.command.Showing.{Showing}
use Rattle.timew_cmd.specs.declared.error.TimewError.{TimewError}
use Rattle.timew_cmd.specs.declared.error.TimewError.TheVariants as plan
use Rattle.timew_cmd.specs.Planned.{Fails}
use Rattle.timew_cmd.specs.Texts.{stored}
use Rattle.timew_cli.specs.Cause.{plan_cause, change_cause, undo_cause}
use Rattle.timew_cli.specs.Carried.{Carried, changes, takes_back, count_of, shows, view_of, shows_any, carried_by}
use Rattle.timew_cli.specs.Run.{Outside, went}
use Rattle.timew_cli.specs.Step.{Rests, EndsBadly, EndsWith, IsFaultOf, IsOnlyRead, Among, IsTooLong}
use Rattle.timew_cli.specs.declared.cause.Cause.{Cause}
use Rattle.timew_cli.specs.declared.cause.Cause.TheVariants.{NotTracking}

-- records that stand for a history hold a step each
pub no_step : (bodies : List (List ℕ)) (h g : History) → replayed h bodies ≡ Some g → (k : ℕ) → k < length bodies → step_of (slice_index_or bodies k []) ≡ None → ⊥
no_step [] h g stands k lt none = absurd (omega (arith, lt))
no_step (b ∷ bodies) h g stands zero lt none = of_none (stepped h b) (ap (λ (o : Option Step). o >>= applied h) none) stands
  where
    of_none : (o : Option History) → o ≡ None → (o >>= λ next. replayed next bodies) ≡ Some g → ⊥
    of_none None is e = cc
    of_none (Some x) is e = cc
no_step (b ∷ bodies) h g stands (suc k) lt none = of_next (stepped h b) stands (λ x e. no_step bodies x g e k (omega (arith, lt)) none)
  where
    of_next : (o : Option History) → (o >>= λ next. replayed next bodies) ≡ Some g → ((x : History) → replayed x bodies ≡ Some g → ⊥) → ⊥
    of_next None e later = cc
    of_next (Some x) e later = later x e

-- what is made of the intervals that a store shows is made of those that it has
pub made_of_kept : (make : List Interval → Result (List Interval) TimewError) (edit : Edit) (rows kept : List Interval) → rows ≡ kept → make rows ≡ Ok (edited edit rows) → make kept ≡ Ok (edited edit kept)
made_of_kept make edit rows kept same is = subst (λ (r : List Interval). make r ≡ Ok (edited edit r)) same is

module _ {F D : Type 0} (m : FolderModel F) (n : DiskModel D) where
  -- a store that is open rests
  pub rests : (store : Store) (f : F) (d : D) (bodies : List (List ℕ)) (history : History) → IsStoreOn m n store f d bodies history → Rests m n f d bodies (held_by m f history)
  rests store f d bodies history on = record { journal = store.journal; history = history; rest = on.rest; holds = refl }

  -- each image of it opens to what it holds
  pub among_here : (store : Store) (f : F) (d : D) (bodies : List (List ℕ)) (history : History) (expected : Result Carried Cause) → IsStoreOn m n store f d bodies history → InTurns m (crash_of n) (Among (held_by m f history) expected) f d f d
  among_here store f d bodies history (Ok carried) on = at_rest f d (λ x y left left'. inl (opens_here m n store.journal f d bodies history x y on.rest left left'))
  among_here store f d bodies history (Err cause) on = at_rest f d (λ x y left left'. opens_here m n store.journal f d bodies history x y on.rest left left')

  -- ---- a command that the intervals refuse

  pub plan_ends : (w : Outside F D) (held : Held) (bodies : List (List ℕ)) (planned_is : Result (List Interval) TimewError) (e : TimewError) → Fails e planned_is → Rests m n w.f1 w.d1 bodies held
      → EndsBadly m n w (changes held planned_is) bodies held (plan_cause e)
  plan_ends w held bodies planned_is (plan.Overlap id) is rest = (ap (changes held) is, rest)
  plan_ends w held bodies planned_is plan.NoOpen is rest = (ap (changes held) is, rest)
  plan_ends w held bodies planned_is (plan.AlreadyOpen id) is rest = (ap (changes held) is, rest)
  plan_ends w held bodies planned_is (plan.NoInterval id) is rest = (ap (changes held) is, rest)
  plan_ends w held bodies planned_is (plan.Range word) is rest = (ap (changes held) is, rest)
  plan_ends w held bodies planned_is plan.Memory is rest = rest

  pub plan_fault : (w : Outside F D) (store : Store) (e : TimewError) → IsOnlyRead m n w → IsFaultOf m n w store (plan_cause e)
  plan_fault w store (plan.Overlap id) rests = tt
  plan_fault w store plan.NoOpen rests = tt
  plan_fault w store (plan.AlreadyOpen id) rests = tt
  plan_fault w store (plan.NoInterval id) rests = tt
  plan_fault w store (plan.Range word) rests = tt
  plan_fault w store plan.Memory rests = rests

  -- ---- a change

  module _ (old new : Store) (f0 f1 : F) (d0 d1 : D) (next : List Interval) where
    stays_whole : (bodies : List (List ℕ)) (history : History) → IsStoreOn m n old f0 d0 bodies history → f1 ≡ f0 → d1 ≡ d0 → Rests m n f1 d1 bodies (held_by m f0 history)
    stays_whole bodies history on same_f same_d =
        subst (λ (f : F). Rests m n f d1 bodies (held_by m f0 history)) (sym same_f) (subst (λ (d : D). Rests m n f0 d bodies (held_by m f0 history)) (sym same_d) (rests old f0 d0 bodies history on))

    too_long : (bodies : List (List ℕ)) (history : History) (bytes : ℕ) (body : List ℕ) → IsStoreOn m n old f0 d0 bodies history → f1 ≡ f0 → d1 ≡ d0 → IsChangeBody m n old f0 d0 next body → bytes ≡ length body + 5
        → IsTooLong m n (went f0 f1 d0 d1) (changes (held_by m f0 history) (Ok next)) bodies (held_by m f0 history) bytes
    too_long bodies history bytes body on same_f same_d is size = record {
      carried = record { held = changed (held_by m f0 history) next; adds = change_bodies (changes_to (m.seen f0) next); text = stored (length next) };
      is = refl;
      size = (body, is bodies history on, size);
      stays = stays_whole bodies history on same_f same_d;
    }

    pub change_ends : (e : StoreError) → ChangeRefused m n old new f0 f1 d0 d1 next e → (bodies : List (List ℕ)) (history : History) → IsStoreOn m n old f0 d0 bodies history
        → EndsBadly m n (went f0 f1 d0 d1) (changes (held_by m f0 history) (Ok next)) bodies (held_by m f0 history) (change_cause e)
    change_ends write.Folder r bodies history on = tt
    change_ends (write.Journal fault.Disk) r bodies history on = tt
    change_ends (write.Journal fault.Closed) r bodies history on = tt
    change_ends (write.Journal (fault.Damaged offset)) r bodies history on = tt
    change_ends (write.Journal (fault.TooLong bytes)) r bodies history on = too_long bodies history bytes r.1.0 on r.0 r.1.2.refused.4 r.1.1 r.1.2.refused.0
    change_ends (write.Journal fault.Memory) r bodies history on = absurd r.1.2.refused
    change_ends write.Memory r bodies history on = stays_whole bodies history on r.1 r.2

    pub change_fault : disk.Untouched n d0 d0 → is_closed old.journal ≡ false → (e : StoreError) → ChangeRefused m n old new f0 f1 d0 d1 next e → IsFaultOf m n (went f0 f1 d0 d1) old (change_cause e)
    change_fault same live write.Folder r = r.0
    change_fault same live (write.Journal fault.Disk) r = r.1.2.refused.0
    change_fault same live (write.Journal fault.Closed) r = absurd (apart r.1.2.refused.0)
      where
        apart : old.journal.closed ≡ true → ⊥
        apart closed = cc
    change_fault same live (write.Journal (fault.Damaged offset)) r = absurd r.1.2.refused
    change_fault same live (write.Journal (fault.TooLong bytes)) r = omega (arith, r.1.2.refused.0, r.1.2.refused.1)
    change_fault same live (write.Journal fault.Memory) r = absurd r.1.2.refused
    change_fault same live write.Memory r = (r.1, subst (λ (d : D). disk.Untouched n d0 d) (sym r.2) same)

    pub change_done : (bodies : List (List ℕ)) (history : History) (count : ℕ) → count ≡ length next → IsMovedTo m n new f1 d1 (bodies ++ change_bodies (changes_to (m.seen f0) next)) (changed (held_by m f0 history) next)
        → EndsWith m n (went f0 f1 d0 d1) (changes (held_by m f0 history) (Ok next)) bodies (stored count)
    change_done bodies history count is moved = record {
      carried = record { held = changed (held_by m f0 history) next; adds = change_bodies (changes_to (m.seen f0) next); text = stored (length next) };
      is = refl;
      text_is = ap stored is;
      after = record { journal = new.journal; history = moved.history; rest = moved.on.rest; holds = moved.holds };
    }

  -- ---- an undo

  pub either_among : (held : Held) (r : Result Held NoUndo) (x : Files) (y : List ℕ) → OpensToEitherOf held r x y → Among held (takes_back held r) x y
  either_among held (Ok back) x y opens = opens
  either_among held (Err why) x y opens = opens

  module _ (old new : Store) (f0 f1 : F) (d0 d1 : D) where
    stays_read : (bodies : List (List ℕ)) (history : History) → IsStoreOn m n old f0 d0 bodies history → f1 ≡ f0 → disk.Untouched n d0 d1 → Rests m n f1 d1 bodies (held_by m f0 history)
    stays_read bodies history on same untouched = subst (λ (f : F). Rests m n f d1 bodies (held_by m f0 history)) (sym same)
        (record { journal = old.journal; history = history; rest = rest_read m n old.journal f0 d0 d1 bodies history untouched on.rest; holds = refl })

    pub undo_ends : (e : UndoError) → UndoRefused m n old new f0 f1 d0 d1 e → (bodies : List (List ℕ)) (history : History) → IsStoreOn m n old f0 d0 bodies history
        → EndsBadly m n (went f0 f1 d0 d1) (takes_back (held_by m f0 history) (undone_held (held_by m f0 history))) bodies (held_by m f0 history) (undo_cause e)
    undo_ends undo.Folder r bodies history on = tt
    undo_ends (undo.Journal fault.Disk) r bodies history on = tt
    undo_ends (undo.Journal fault.Closed) r bodies history on = tt
    undo_ends (undo.Journal (fault.Damaged offset)) r bodies history on = tt
    undo_ends (undo.Journal (fault.TooLong bytes)) r bodies history on =
        let writes = r.2.2 bodies history on in
        record {
          carried = record { held = writes.back; adds = undo_bodies history.undoable; text = stored (count_of (rows_of writes.back.files)) };
          is = ap (takes_back (held_by m f0 history)) writes.is;
          size = (writes.body, writes.one, writes.size);
          stays = stays_read bodies history on r.0 r.2.1.1;
        }
    undo_ends (undo.Journal fault.Memory) r bodies history on = stays_read bodies history on r.0 r.2.1
    undo_ends (undo.BadLine file line) r bodies history on = (ap (takes_back (held_by m f0 history)) (r.1 bodies history on), stays_read bodies history on r.0.1 r.0.2)
    undo_ends (undo.Edited file) r bodies history on = (ap (takes_back (held_by m f0 history)) (r.1 bodies history on), stays_read bodies history on r.0.1 r.0.2)
    undo_ends undo.NothingToUndo r bodies history on = (ap (takes_back (held_by m f0 history)) (r.1 bodies history on), stays_read bodies history on r.0.1 r.0.2)
    undo_ends undo.Memory r bodies history on = stays_read bodies history on r.1 r.2

    pub undo_fault : is_closed old.journal ≡ false → (e : UndoError) → UndoRefused m n old new f0 f1 d0 d1 e → IsFaultOf m n (went f0 f1 d0 d1) old (undo_cause e)
    undo_fault live undo.Folder r = r.0
    undo_fault live (undo.Journal fault.Disk) r = r.2.0
    undo_fault live (undo.Journal fault.Closed) r = absurd (apart r.2.1)
      where
        apart : old.journal.closed ≡ true → ⊥
        apart closed = cc
    undo_fault live (undo.Journal (fault.Damaged offset)) r = (r.2.1, (r.0, r.2.0.1))
    undo_fault live (undo.Journal (fault.TooLong bytes)) r = r.2.0
    undo_fault live (undo.Journal fault.Memory) r = (r.0, r.2.1)
    undo_fault live (undo.BadLine file line) r = tt
    undo_fault live (undo.Edited file) r = tt
    undo_fault live undo.NothingToUndo r = tt
    undo_fault live undo.Memory r = (r.1, r.2)

    pub undo_done : (bodies : List (List ℕ)) (history : History) (count : ℕ) → count ≡ length (intervals_of new) → IsTakenBack m n new f0 f1 d1 bodies history
        → EndsWith m n (went f0 f1 d0 d1) (takes_back (held_by m f0 history) (undone_held (held_by m f0 history))) bodies (stored count)
    undo_done bodies history count is taken = record {
      carried = record { held = taken.back; adds = undo_bodies history.undoable; text = stored (count_of (rows_of taken.back.files)) };
      is = ap (takes_back (held_by m f0 history)) taken.is;
      text_is = ap stored (is ∙ sym (ap (λ (h : Held). count_of (rows_of h.files)) (sym taken.moved.holds) ∙ ap count_of taken.moved.on.months.rows_are));
      after = record { journal = new.journal; history = taken.moved.history; rest = taken.moved.on.rest; holds = taken.moved.holds };
    }

-- ---- a command that only shows

pub some_view : {A B : Type 0} (f : A → B) (o : Option A) (x : A) (v : Option B) → o ≡ Some x → option_map f o ≡ v → v ≡ Some (f x)
some_view f o x v is view = sym view ∙ ap (option_map f) is

pub none_view : {A B : Type 0} (f : A → B) (o : Option A) (v : Option B) → o ≡ None → option_map f o ≡ v → v ≡ None
none_view f o v is view = sym view ∙ ap (option_map f) is

module _ {F D : Type 0} (m : FolderModel F) (n : DiskModel D) (store : Store) (f : F) (d : D) (bodies : List (List ℕ)) (history : History) (on : IsStoreOn m n store f d bodies history) (command : Command) (showing : Showing) (now : ℕ) (zone : TimeZone)
    (asked : command ≡ Show showing) where
  shown : carried_by command (held_by m f history) (intervals_of store) now zone ≡ shows_any (held_by m f history) (view_of showing (intervals_of store) now zone)
  shown = ap (λ (c : Command). carried_by c (held_by m f history) (intervals_of store) now zone) asked

  pub view_ends : (text : List ℕ) → view_of showing (intervals_of store) now zone ≡ Some text → EndsWith m n (went f f d d) (carried_by command (held_by m f history) (intervals_of store) now zone) bodies text
  view_ends text is = record {
    carried = shows (held_by m f history) text;
    is = shown ∙ ap (shows_any (held_by m f history)) is;
    text_is = refl;
    after = subst (λ (b : List (List ℕ)). Rests m n f d b (held_by m f history)) (sym (append-nil bodies)) (rests m n store f d bodies history on);
  }

  pub view_fails : view_of showing (intervals_of store) now zone ≡ None → (carried_by command (held_by m f history) (intervals_of store) now zone ≡ Err NotTracking) × Rests m n f d bodies (held_by m f history)
  view_fails is = (shown ∙ ap (shows_any (held_by m f history)) is, rests m n store f d bodies history on)
