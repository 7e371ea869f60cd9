-- A command over what was loaded, seen from before the loading.
use Rattle.std.proofs.Common.{◌≡◌, inl, inr, ℕ, List, [], ◌++◌, Result, Ok, Err, refl, sym, ap, subst, ◌∙◌, arith}
use Rattle.std.specs.Prelude.{IfOk, IfErr}
use Rattle.std.proofs.lemmas.List.{append-nil}
use Rattle.tw_time.specs.Moments.{TimeZone}
use Rattle.tw_world.specs.Disk.{DiskModel}
use Rattle.tw_world.specs.Disk as disk
use Rattle.tw_world.specs.Crash.{CrashModel, Tells, IsStable, LeavesOnly, FaultsRise}
use Rattle.tw_world.specs.Folder.{Files, FolderModel}
use Rattle.tw_world.specs.Turns.{InTurns, crash_of}
use Rattle.tw_world.specs.Turns.InTurns.{at_rest, first, second}
use Rattle.tw_world.proofs.Crashes.{CountsNow, weaker}
use Rattle.tw_world.proofs.TurnRules.{disk_run, ends_second, turns_weaker, turns_joined}
use Rattle.tw_journal.specs.Form.{offset_in}
use Rattle.tw_journal.proofs.Offsets.{still_open, open_records}
use Rattle.timew_store.specs.History.{History, start}
use Rattle.timew_store.specs.Held.{magic, Held, OpensTo, held_by}
use Rattle.timew_store.specs.Loading.{OpensAlike, LeavesAlike}
use Rattle.timew_month.specs.Rows.{rows_of}
use Rattle.timew_store.specs.Store.{IsStoreOn, IsLoadedStore, intervals_of}
use Rattle.timew_interval.specs.declared.interval.Interval.{Interval}
use Rattle.timew_store.specs.declared.store.Store.{Store}
use Rattle.timew_store.proofs.AfterLoading.{all_finished}
use Rattle.timew_store.proofs.LoadedStore.{loaded_on, loaded_files, loaded_held}
use Rattle.timew_store.proofs.Prepares.{opens_here}
use Rattle.timew_store.proofs.Undoes.{rest_read}
use Rattle.timew_store.proofs.Stays.{MayStay, DiskMayStay}
use Rattle.timew_words.specs.declared.command.Command.{Command}
use Rattle.timew_cli.specs.Cause.{carry_cause}
use Rattle.timew_cli.specs.Carried.{Carried, carried_by, carried_out, with_rows}
use Rattle.timew_cli.specs.Run.{Outside, went, HasSize, IsLeft, Opens, HoldsMore, Does, CarriedOut, Refused, PassesLimit, Because, NotCarried, CanBeCarriedOut, LeavesOf, LeavesStates}
use Rattle.timew_cli.specs.Step.{shown_text, shown_of, Rests, EndsBadly, EndsWith, EndsOn, IsFaultOf, IsOnlyRead, Among, IsTooLong}
use Rattle.timew_cli.specs.declared.carry.CarryError.{CarryError}
use Rattle.timew_cli.specs.declared.carry.Shown.{Shown}
use Rattle.timew_cli.specs.declared.cause.Cause.{Cause}
use Rattle.timew_cli.specs.declared.cause.Cause.TheVariants as causes
use Rattle.timew_cli.proofs.Ending.{no_step}

-- a run of two objects, and then calls that only read the second of them
turns_then_reads : {A B X Y : Type 0} (m : CrashModel A X) (n : CrashModel B Y) → CountsNow n → (P : X → Y → Type 0) (a : A) (b : B) (c : A) (d : B) (e : B) → InTurns m n P a b c d → LeavesOnly n d e (n.leaves d) → InTurns m n P a b c e
turns_then_reads {X = X} m n counts_now P _ _ _ _ e (at_rest a b here) run = ends_second m n counts_now P a b e (weaker n b e (n.leaves b) (λ y. (x : X) → m.leaves a x → P x y) run (λ y left x left'. here x y left' left))
turns_then_reads m n counts_now P _ _ _ _ e (first a mid b c d moves rest) run = first a mid b c e moves (turns_then_reads m n counts_now P mid b c d e rest run)
turns_then_reads m n counts_now P _ _ _ _ e (second a b mid c d moves rest) run = second a b mid c e moves (turns_then_reads m n counts_now P a mid c d e rest run)

module _ {F D : Type 0} (m : FolderModel F) (n : DiskModel D) (command : Command) (now : ℕ) (zone : TimeZone) where
  pub still_among : (w : Outside F D) (held : Held) (r : Result Carried Cause) (x : Files) (y : List ℕ) → OpensAlike m n w.f0 w.d0 x y → LeavesOf m n command now zone w held r x y
  still_among w held (Ok carried) x y alike = inl alike
  still_among w held (Err cause) x y alike = inl alike

  module _ (f0 f1 : F) (d0 d1 : D) where
    pub load_leaves : (Tells m f0 → IsStable m f0 → disk.Tells n d0 → InTurns m (crash_of n) (OpensAlike m n f0 d0) f0 d0 f1 d1) → LeavesStates m n command now zone (went f0 f1 d0 d1)
    load_leaves run held opens =
        turns_weaker m (crash_of n) (OpensAlike m n f0 d0) (LeavesOf m n command now zone (went f0 f1 d0 d1) held (carried_out command held now zone)) (λ x y alike. still_among (went f0 f1 d0 d1) held (carried_out command held now zone) x y alike) f0 d0 f1 d1 (run opens.told opens.settled opens.tells)

  -- ---- where a store was loaded

  module _ (store : Store) (f0 f1 f2 : F) (d0 d1 d2 : D) (loaded : disk.Tells n d0 → IsLoadedStore m n f0 f1 d0 d1 store) (held : Held) (opens : Opens m n f0 d0 held) where
    abbrev pub is_loaded : IsLoadedStore m n f0 f1 d0 d1 store
    is_loaded = loaded opens.tells

    on : IsStoreOn m n store f1 d1 is_loaded.bodies opens.opens.history
    on = loaded_on m n store f0 f1 d0 d1 is_loaded held opens.told opens.settled opens.opens

    files_same : m.seen f1 ≡ held.files
    files_same = loaded_files m n store f0 f1 d0 d1 is_loaded held opens.told opens.settled opens.opens

    held_same : held_by m f1 opens.opens.history ≡ held
    held_same = loaded_held m n store f0 f1 d0 d1 is_loaded held opens.told opens.settled opens.opens

    expected_same : carried_by command (held_by m f1 opens.opens.history) (intervals_of store) now zone ≡ carried_out command held now zone
    expected_same =
        ap (λ (h : Held). carried_by command h (intervals_of store) now zone) held_same
        ∙ sym (ap (λ (found : Result (List Interval) (List ℕ × ℕ)). with_rows command held found now zone) (ap rows_of (sym files_same) ∙ on.months.rows_are))

    abbrev pub w : Outside F D
    w = went f0 f2 d0 d2

    more : (adds : List (List ℕ)) (after : Held) → Rests m n f2 d2 (is_loaded.bodies ++ adds) after → HoldsMore m n w adds after
    more adds after rest = record { bodies = is_loaded.bodies; had = is_loaded.records; journal = rest.journal; history = rest.history; rest = rest.rest; holds = rest.holds }

    stays : Rests m n f2 d2 is_loaded.bodies (held_by m f1 opens.opens.history) → HoldsMore m n w [] held
    stays rest = more [] held (subst (λ (b : List (List ℕ)). Rests m n f2 d2 b held) (sym (append-nil is_loaded.bodies)) (subst (λ (h : Held). Rests m n f2 d2 is_loaded.bodies h) held_same rest))

    -- where it was only read since, folder and disk open to what they did
    opens_read : MayStay m → DiskMayStay n → f2 ≡ f1 → disk.Untouched n d1 d2 → OpensTo (m.seen f2) (n.seen d2) held
    opens_read folder_stays disk_stays same read =
        let rest = rest_read m n store.journal f1 d1 d2 is_loaded.bodies opens.opens.history read on.rest in
        subst (λ (f : F). OpensTo (m.seen f) (n.seen d2) held) (sym same)
        (subst (OpensTo (m.seen f1) (n.seen d2)) held_same (opens_here m n store.journal f1 d2 is_loaded.bodies opens.opens.history (m.seen f1) (n.seen d2) rest (folder_stays f1 rest.tells) (disk_stays d2 rest.open_on.rest.tells)))

    pub does : (text : List ℕ) → EndsWith m n (went f1 f2 d1 d2) (carried_by command (held_by m f1 opens.opens.history) (intervals_of store) now zone) is_loaded.bodies text → Does m n command now zone w held text
    does text ends = record { carried = ends.carried; is = sym expected_same ∙ ends.is; text_is = ends.text_is; after = more ends.carried.adds ends.carried.held ends.after }

    refused : (cause : Cause) → (carried_by command (held_by m f1 opens.opens.history) (intervals_of store) now zone ≡ Err cause) × Rests m n f2 d2 is_loaded.bodies (held_by m f1 opens.opens.history)
        → (carried_out command held now zone ≡ Err cause) × HoldsMore m n w [] held
    refused cause r = (sym expected_same ∙ r.0, stays r.1)

    passes : (bytes : ℕ) → IsTooLong m n (went f1 f2 d1 d2) (carried_by command (held_by m f1 opens.opens.history) (intervals_of store) now zone) is_loaded.bodies (held_by m f1 opens.opens.history) bytes → PassesLimit m n command now zone w held bytes
    passes bytes r = record { carried = r.carried; is = sym expected_same ∙ r.is; size = r.size; stays = stays r.stays }

  -- ---- whatever is held

  among_leaves : (w : Outside F D) (held : Held) (r : Result Carried Cause) (x : Files) (y : List ℕ) → Among held r x y → LeavesOf m n command now zone w held r x y
  among_leaves w held (Ok carried) x y among = inr among
  among_leaves w held (Err cause) x y among = inr among

  module _ (store : Store) (f0 f1 f2 : F) (d0 d1 d2 : D) (loaded : disk.Tells n d0 → IsLoadedStore m n f0 f1 d0 d1 store) where
    step_done : (text : List ℕ)
        → ((bodies : List (List ℕ)) (history : History) → IsStoreOn m n store f1 d1 bodies history → EndsWith m n (went f1 f2 d1 d2) (carried_by command (held_by m f1 history) (intervals_of store) now zone) bodies text)
        → CarriedOut m n command now zone (went f0 f2 d0 d2) text
    step_done text ends held opens = does store f0 f1 f2 d0 d1 d2 loaded held opens text (ends (is_loaded store f0 f1 f2 d0 d1 d2 loaded held opens).bodies opens.opens.history (on store f0 f1 f2 d0 d1 d2 loaded held opens))

    pub step_leaves : (Tells m f0 → IsStable m f0 → disk.Tells n d0 → InTurns m (crash_of n) (OpensAlike m n f0 d0) f0 d0 f1 d1)
        → ((bodies : List (List ℕ)) (history : History) → IsStoreOn m n store f1 d1 bodies history → InTurns m (crash_of n) (Among (held_by m f1 history) (carried_by command (held_by m f1 history) (intervals_of store) now zone)) f1 d1 f2 d2)
        → LeavesStates m n command now zone (went f0 f2 d0 d2)
    step_leaves load run held opens =
        let history = opens.opens.history in
        let expected = carried_out command held now zone in
        let P = LeavesOf m n command now zone (went f0 f2 d0 d2) held expected in
        let same = held_same store f0 f1 f2 d0 d1 d2 loaded held opens in
        let among = run (is_loaded store f0 f1 f2 d0 d1 d2 loaded held opens).bodies history (on store f0 f1 f2 d0 d1 d2 loaded held opens) in
        turns_joined m (crash_of n) P f0 d0 f1 d1 f2 d2
        (turns_weaker m (crash_of n) (OpensAlike m n f0 d0) P (λ x y alike. still_among (went f0 f2 d0 d2) held expected x y alike) f0 d0 f1 d1 (load opens.told opens.settled opens.tells))
        (turns_weaker m (crash_of n) (Among held expected) P (λ x y has. among_leaves (went f0 f2 d0 d2) held expected x y has) f1 d1 f2 d2
        (subst (λ (r : Result Carried Cause). InTurns m (crash_of n) (Among held r) f1 d1 f2 d2) (expected_same store f0 f1 f2 d0 d1 d2 loaded held opens)
        (subst (λ (h : Held). InTurns m (crash_of n) (Among h (carried_by command (held_by m f1 history) (intervals_of store) now zone)) f1 d1 f2 d2) same among)))

    here : (cause : Cause) → ((bodies : List (List ℕ)) (history : History) → IsStoreOn m n store f1 d1 bodies history → EndsBadly m n (went f1 f2 d1 d2) (carried_by command (held_by m f1 history) (intervals_of store) now zone) bodies (held_by m f1 history) cause)
        → (held : Held) (opens : Opens m n f0 d0 held)
        → EndsBadly m n (went f1 f2 d1 d2) (carried_by command (held_by m f1 opens.opens.history) (intervals_of store) now zone) (is_loaded store f0 f1 f2 d0 d1 d2 loaded held opens).bodies (held_by m f1 opens.opens.history) cause
    here cause ends held opens = ends (is_loaded store f0 f1 f2 d0 d1 d2 loaded held opens).bodies opens.opens.history (on store f0 f1 f2 d0 d1 d2 loaded held opens)

    -- the intervals or the last change refuse the command, and the state stays
    abbrev pub IsRefusedOn : Cause → Type 0
    IsRefusedOn cause = (bodies : List (List ℕ)) (history : History) → IsStoreOn m n store f1 d1 bodies history → (carried_by command (held_by m f1 history) (intervals_of store) now zone ≡ Err cause) × Rests m n f2 d2 bodies (held_by m f1 history)

    refuses : (cause : Cause) → IsRefusedOn cause → Refused m n command now zone (went f0 f2 d0 d2) cause
    refuses cause ends held opens =
        refused store f0 f1 f2 d0 d1 d2 loaded held opens cause (ends (is_loaded store f0 f1 f2 d0 d1 d2 loaded held opens).bodies opens.opens.history (on store f0 f1 f2 d0 d1 d2 loaded held opens))

    -- where nothing was written since, folder and disk are left as the loading left them
    left : MayStay m → DiskMayStay n → CountsNow (crash_of n) → FaultsRise m f0 f1 → disk.FaultsRise n d0 d1 → LeavesAlike m n f0 f1 d0 d1 → IsOnlyRead m n (went f1 f2 d1 d2) → IsLeft m n (went f0 f2 d0 d2)
    left folder_stays disk_stays counts_now folder kept alike rests = record {
      stays = record {
        opens = λ told settled tells held opens. opens_read store f0 f1 f2 d0 d1 d2 loaded held (record { told = told; settled = settled; tells = tells; opens = opens }) folder_stays disk_stays rests.0 rests.1;
        files = λ told tells.
            let is = loaded tells in
            inr (record { bodies = is.bodies; records = is.records; last = is.last; last_is = is.last_is; partly = all_finished is.last (m.seen f0) (m.seen f2) (ap (λ (f : F). m.seen f) rests.0 ∙ is.finished_now told) });
        journal = λ tells.
            let is = loaded tells in
            inr (record {
              bodies = is.bodies;
              had = is.records;
              has = open_records n magic store.journal d2 is.bodies (still_open n magic store.journal d1 d2 is.bodies rests.1 is.open_on);
              offsets = λ k inside. ap (λ (s : List ℕ). offset_in magic s is.bodies k) (rests.1.seen (kept.tells ∙ tells)) ∙ is.offsets k inside;
            });
      };
      any_moment = λ told settled tells.
          subst (λ (f : F). InTurns m (crash_of n) (OpensAlike m n f0 d0) f0 d0 f d2) (sym rests.0)
          (turns_then_reads m (crash_of n) counts_now (OpensAlike m n f0 d0) f0 d0 f1 d1 d2 (alike told settled tells) (disk_run n d1 d2 (n.leaves d1) (rests.1.run (kept.tells ∙ tells))));
    }

    step_ends : (IsOnlyRead m n (went f1 f2 d1 d2) → IsLeft m n (went f0 f2 d0 d2)) → FaultsRise m f0 f1 → disk.FaultsRise n d0 d1 → (cause : Cause)
        → ((bodies : List (List ℕ)) (history : History) → IsStoreOn m n store f1 d1 bodies history → EndsBadly m n (went f1 f2 d1 d2) (carried_by command (held_by m f1 history) (intervals_of store) now zone) bodies (held_by m f1 history) cause)
        → IsFaultOf m n (went f1 f2 d1 d2) store cause → Because m n command now zone (went f0 f2 d0 d2) cause
    step_ends leaves folder kept causes.DiskFault ends is = (
      omega (arith, kept.faults, is),
      inr (record { folder = f1; disk = d1; store = store; loads = loaded; since = is }),
    )
    step_ends leaves folder kept causes.FolderFault ends is = (
      omega (arith, folder.faults, is),
      inr (record { folder = f1; disk = d1; store = store; loads = loaded; since = is }),
    )
    step_ends leaves folder kept causes.Memory ends is = leaves is
    step_ends leaves folder kept (causes.RecordTooLong bytes) ends is = (is, λ held opens. passes store f0 f1 f2 d0 d1 d2 loaded held opens bytes (here (causes.RecordTooLong bytes) ends held opens))
    step_ends leaves folder kept (causes.Damaged offset) ends is = (
      λ tells.
          let has = loaded tells in
          let at = is.0 (kept.tells ∙ tells) has.bodies has.open_on in
          inr (record { bodies = has.bodies; records = has.records; number = at.0; inside = at.1; none = (at.2.0, at.2.1 ∙ has.offsets at.0 at.1) }),
      leaves is.1,
    )
    step_ends leaves folder kept causes.Done ends is = refuses causes.Done ends
    step_ends leaves folder kept causes.OutFault ends is = refuses causes.OutFault ends
    step_ends leaves folder kept causes.NotTracking ends is = refuses causes.NotTracking ends
    step_ends leaves folder kept causes.NothingToUndo ends is = refuses causes.NothingToUndo ends
    step_ends leaves folder kept (causes.Edited file) ends is = refuses (causes.Edited file) ends
    step_ends leaves folder kept (causes.BadWords word kind) ends is = refuses (causes.BadWords word kind) ends
    step_ends leaves folder kept (causes.NoInterval id) ends is = refuses (causes.NoInterval id) ends
    step_ends leaves folder kept causes.NoOpen ends is = refuses causes.NoOpen ends
    step_ends leaves folder kept (causes.AlreadyOpen id) ends is = refuses (causes.AlreadyOpen id) ends
    step_ends leaves folder kept (causes.Range word) ends is = refuses (causes.Range word) ends
    step_ends leaves folder kept (causes.Overlap id) ends is = refuses (causes.Overlap id) ends
    step_ends leaves folder kept (causes.BadLine file line) ends is = refuses (causes.BadLine file line) ends

    same_carried : (a b : Carried) (r : Result Carried Cause) → r ≡ Ok a → r ≡ Ok b → a ≡ b
    same_carried a b r is that = cc

    -- a command that can be carried out is not refused
    no_refusal : (cause : Cause) → IsRefusedOn cause → CanBeCarriedOut m n command now zone (went f0 f2 d0 d2) → cause ≡ causes.Memory
    no_refusal cause ends can = absurd (apart (carried_out command can.held now zone) can.is (refuses cause ends can.held can.opens).0)
      where
        apart : (r : Result Carried Cause) → r ≡ Ok can.carried → r ≡ Err cause → ⊥
        apart r e f = cc

    step_wants : FaultsRise m f0 f1 → disk.FaultsRise n d0 d1 → (cause : Cause)
        → ((bodies : List (List ℕ)) (history : History) → IsStoreOn m n store f1 d1 bodies history → EndsBadly m n (went f1 f2 d1 d2) (carried_by command (held_by m f1 history) (intervals_of store) now zone) bodies (held_by m f1 history) cause)
        → IsFaultOf m n (went f1 f2 d1 d2) store cause → CanBeCarriedOut m n command now zone (went f0 f2 d0 d2) → cause ≡ causes.Memory
    step_wants folder kept causes.DiskFault ends is can = absurd (can.disk_well (omega (arith, kept.faults, is)))
    step_wants folder kept causes.FolderFault ends is can = absurd (can.folder_well (omega (arith, folder.faults, is)))
    step_wants folder kept causes.Memory ends is can = refl
    step_wants folder kept (causes.RecordTooLong bytes) ends is can =
        let long = passes store f0 f1 f2 d0 d1 d2 loaded can.held can.opens bytes (here (causes.RecordTooLong bytes) ends can.held can.opens) in
        let same = same_carried long.carried can.carried (carried_out command can.held now zone) long.is can.is in
        absurd (omega (arith, is, can.fits bytes (subst (λ (c : Carried). HasSize c.adds bytes) same long.size)))
    step_wants folder kept (causes.Damaged offset) ends is can =
        let has = loaded can.opens.tells in
        let at = is.0 (kept.tells ∙ can.opens.tells) has.bodies has.open_on in
        absurd (no_step has.bodies start can.opens.opens.history (on store f0 f1 f2 d0 d1 d2 loaded can.held can.opens).rest.stands at.0 at.1 at.2.0)
    step_wants folder kept causes.Done ends is can = no_refusal causes.Done ends can
    step_wants folder kept causes.OutFault ends is can = no_refusal causes.OutFault ends can
    step_wants folder kept causes.NotTracking ends is can = no_refusal causes.NotTracking ends can
    step_wants folder kept causes.NothingToUndo ends is can = no_refusal causes.NothingToUndo ends can
    step_wants folder kept (causes.Edited file) ends is can = no_refusal (causes.Edited file) ends can
    step_wants folder kept (causes.BadWords word kind) ends is can = no_refusal (causes.BadWords word kind) ends can
    step_wants folder kept (causes.NoInterval id) ends is can = no_refusal (causes.NoInterval id) ends can
    step_wants folder kept causes.NoOpen ends is can = no_refusal causes.NoOpen ends can
    step_wants folder kept (causes.AlreadyOpen id) ends is can = no_refusal (causes.AlreadyOpen id) ends can
    step_wants folder kept (causes.Range word) ends is can = no_refusal (causes.Range word) ends can
    step_wants folder kept (causes.Overlap id) ends is can = no_refusal (causes.Overlap id) ends can
    step_wants folder kept (causes.BadLine file line) ends is can = no_refusal (causes.BadLine file line) ends can

    -- ---- by how the step ended

    abbrev pub HasEnded : Result Shown CarryError → Type 0
    HasEnded result = EndsOn m n (went f1 f2 d1 d2) store (λ held. carried_by command held (intervals_of store) now zone) (shown_of result)

    abbrev pub HasFaults : Result Shown CarryError → Type 0
    HasFaults result = IfErr result (λ e. IsFaultOf m n (went f1 f2 d1 d2) store (carry_cause e))

    pub ended_done : (r : Result Shown CarryError) → HasEnded r → IfOk r (λ shown. CarriedOut m n command now zone (went f0 f2 d0 d2) (shown_text shown))
    ended_done (Ok shown) ends = step_done (shown_text shown) ends
    ended_done (Err e) ends = tt

    pub ended_badly : MayStay m → DiskMayStay n → CountsNow (crash_of n) → FaultsRise m f0 f1 → disk.FaultsRise n d0 d1 → LeavesAlike m n f0 f1 d0 d1 → (r : Result Shown CarryError) → HasEnded r → HasFaults r → IfErr r (NotCarried m n command now zone (went f0 f2 d0 d2))
    ended_badly folder_stays disk_stays counts_now folder kept alike (Ok shown) ends faults = tt
    ended_badly folder_stays disk_stays counts_now folder kept alike (Err e) ends faults = step_ends (left folder_stays disk_stays counts_now folder kept alike) folder kept (carry_cause e) ends faults

    pub ended_wants : FaultsRise m f0 f1 → disk.FaultsRise n d0 d1 → (r : Result Shown CarryError) → HasEnded r → HasFaults r → IfErr r (λ e. CanBeCarriedOut m n command now zone (went f0 f2 d0 d2) → carry_cause e ≡ causes.Memory)
    ended_wants folder kept (Ok shown) ends faults = tt
    ended_wants folder kept (Err e) ends faults = step_wants folder kept (carry_cause e) ends faults
