-- What loading leaves opens to what was there before.
use Rattle.std.proofs.Common.{◌≡◌, inl, inr, ℕ, zero, suc, Bool, true, false, List, [], ◌∷◌, length, take, Option, Some, None, refl, sym, ap, subst, ◌∙◌, arith}
use Rattle.std.specs.Prelude.{cond, unwrap_or, ◌+◌, slice_index_or}
use Rattle.std.proofs.lemmas.List.{take_all}
use Rattle.std.specs.Cmp.Lexicographic.{nat_list_cmp_total, texts_ties}
use Rattle.std.specs.Ordering.{is_eq, is_lt}
use Rattle.std.specs.declared.cmp.Ordering.TheVariants.{Less}
use Rattle.std.specs.FinMap.{get}
use Rattle.tw_world.specs.Disk.{DiskModel}
use Rattle.tw_world.specs.Disk as disk
use Rattle.tw_world.proofs.Moments as moments
use Rattle.tw_world.specs.Crash.{Tells, IsStable, LeavesOnly, FaultsRise}
use Rattle.tw_world.specs.Turns.{InTurns, crash_of}
use Rattle.tw_world.specs.Turns.InTurns.{second}
use Rattle.tw_world.specs.Folder.{Files, FolderModel, same_bytes, bytes_cmp}
use Rattle.tw_world.proofs.Crashes.{CountsNow, weaker}
use Rattle.tw_world.proofs.TurnRules.{disk_run, ends_first, ends_second}
use Rattle.tw_journal.specs.Open.{Records, SameRecords, IsImageThen}
use Rattle.tw_journal.specs.Journal.{IsOpenOn}
use Rattle.tw_journal.specs.declared.journal.Journal.{Journal}
use Rattle.tw_journal.proofs.Unique.{one_records}
use Rattle.timew_month.specs.Body.{FileChange, Step, step_of, ◌>>=◌, rises_from, names_rise}
use Rattle.timew_month.specs.Body.Step.{Change, Undo}
use Rattle.timew_store.specs.History.{History, Stands, start, stepped, applied, replayed, with_change, undone, exchanged, same_files}
use Rattle.timew_store.specs.Held.{magic, finished, finished_file, Held, OpensTo, IsApart, AreApart}
use Rattle.timew_month.specs.Files.{bytes_of, with_new}
use Rattle.timew_store.specs.Loading.{IsFinishedTo, OpensAlike, IsLoaded, StandAsBefore, files_in, files_or, last_of}
use Rattle.timew_interval.proofs.SameBytes.{same_bytes_back}
use Rattle.timew_month.proofs.ReplacedFiles.{get-new-apart, get-new-here}
use Rattle.timew_store.proofs.FinishedFiles.{apart_take, one_new}
use Rattle.timew_store.proofs.CrashOfChange.{open_records}
use Rattle.timew_interval.proofs.Tests.{both, is_less}

either_case : {X : Type 0} (b : Bool) (x y : X) (P : X → Type 0) → P x → P y → P (cond b x y)
either_case true x y P px py = px
either_case false x y P px py = py

-- finishing another file leaves this one
pub get-finished_file-apart : (files : Files) (f : FileChange) (q : List ℕ) → same_bytes q f.name ≡ false → get (finished_file files f) q ≡ get files q
get-finished_file-apart files f q apart = either_case (same_bytes (bytes_of files f.name) f.old) (with_new files f) files (λ s. get s q ≡ get files q) (get-new-apart files f q apart) refl

get-finished-apart : (changes : List FileChange) (files : Files) (name : List ℕ) → IsApart name changes → get (finished files changes) name ≡ get files name
get-finished-apart [] files name apart = refl
get-finished-apart (f ∷ changes) files name apart = get-finished-apart changes (finished_file files f) name apart.1 ∙ get-finished_file-apart files f name (same_bytes_back name f.name ∙ apart.0)

-- A file that was finished is not changed when it is finished again, as long as only other files were.
again_same : (b : Bool) (files now : Files) (f : FileChange) → same_bytes (bytes_of files f.name) f.old ≡ b → get now f.name ≡ get (cond b (with_new files f) files) f.name → finished_file now f ≡ now
again_same true files now f is same = one_new now f (same ∙ get-new-here files f)
again_same false files now f is same =
    let other : same_bytes (bytes_of now f.name) f.old ≡ false = ap (λ (o : Option (List ℕ)). same_bytes (unwrap_or o []) f.old) same ∙ is in
    ap (λ (b : Bool). cond b (with_new now f) now) other

once_more : (files now : Files) (f : FileChange) → get now f.name ≡ get (finished_file files f) f.name → finished_file now f ≡ now
once_more files now f same = again_same (same_bytes (bytes_of files f.name) f.old) files now f refl same

-- finishing what was finished in part makes the same as finishing it at once
pub finished_again : (changes : List FileChange) (files : Files) (j : ℕ) → AreApart changes → finished (finished files (take j changes)) changes ≡ finished files changes
finished_again [] files zero apart = refl
finished_again [] files (suc j) apart = refl
finished_again (f ∷ changes) files zero apart = refl
finished_again (f ∷ changes) files (suc j) apart =
    let now = finished (finished_file files f) (take j changes) in
    let same : get now f.name ≡ get (finished_file files f) f.name = get-finished-apart (take j changes) (finished_file files f) f.name (apart_take j changes f.name apart.0) in
    ap (λ (s : Files). finished s changes) (once_more files now f same) ∙ finished_again changes (finished_file files f) j apart.1

-- ---- the last change

less_apart : (a b : List ℕ) → bytes_cmp a b ≡ Less → same_bytes b a ≡ false
less_apart a b less = same_bytes_back b a ∙ texts_ties a b ∙ ap is_eq less

above : (name : List ℕ) (files : List FileChange) (low : List ℕ) → bytes_cmp low name ≡ Less → rises_from name files ≡ true → IsApart low files
above name [] low less rise = tt
above name (f ∷ files) low less rise =
    let parts = both (is_lt (bytes_cmp name f.name)) (rises_from f.name files) rise in
    let further = nat_list_cmp_total.trans low name f.name less (is_less (bytes_cmp name f.name) parts.0) in
    (less_apart low f.name further, above f.name files low further parts.1)

-- names that rise are apart
pub rise_apart : (files : List FileChange) → names_rise files ≡ true → AreApart files
rise_apart [] rise = tt
rise_apart (f ∷ files) rise = (over f.name files rise, rise_apart files (tail_rises f.name files rise))
  where
    over : (name : List ℕ) (files : List FileChange) → rises_from name files ≡ true → IsApart name files
    over name [] rise = tt
    over name (f ∷ files) rise =
        let parts = both (is_lt (bytes_cmp name f.name)) (rises_from f.name files) rise in
        let less = is_less (bytes_cmp name f.name) parts.0 in
        (less_apart name f.name less, above f.name files name less parts.1)

    tail_rises : (name : List ℕ) (files : List FileChange) → rises_from name files ≡ true → names_rise files ≡ true
    tail_rises name [] rise = refl
    tail_rises name (f ∷ files) rise = (both (is_lt (bytes_cmp name f.name)) (rises_from f.name files) rise).1

last_applied : (h : History) (s : Step) (g : History) → applied h s ≡ Some g → g.last ≡ files_in s
last_applied h (Change files) g e = λ i. (some_is e i).last
  where
    some_is : Some (with_change files h) ≡ Some g → g ≡ with_change files h
    some_is e = cc
last_applied h (Undo files) g e = of_undo h.undoable e
  where
    of_undo : (stack : List (List FileChange)) → undone files stack ≡ Some g → g.last ≡ files
    of_undo [] e = cc
    of_undo (change ∷ earlier) e = of_case (same_files files (exchanged change)) e
      where
        of_case : (b : Bool) → cond b (Some (record { undoable = earlier; last = files })) None ≡ Some g → g.last ≡ files
        of_case true e = cc
        of_case false e = cc

-- if the records lead to a history, its last change is that of the last record
pub last_is : (bodies : List (List ℕ)) (h g : History) → replayed h bodies ≡ Some g → (bodies ≡ [] → h.last ≡ []) → last_of bodies ≡ Some g.last
last_is [] h g stands none = let empty : h.last ≡ [] = none refl in cc
last_is (body ∷ []) h g stands none = of_step (step_of body) stands
  where
    of_step : (o : Option Step) → ((o >>= applied h) >>= λ next. Some next) ≡ Some g → files_or o ≡ Some g.last
    of_step None e = cc
    of_step (Some s) e = ap Some (sym (last_applied h s g (of_applied (applied h s) e)))
      where
        of_applied : (o : Option History) → (o >>= λ next. Some next) ≡ Some g → o ≡ Some g
        of_applied (Some x) e = e
        of_applied None e = cc
last_is (body ∷ next ∷ bodies) h g stands none = of_next (stepped h body) (λ k e. last_is (next ∷ bodies) k g e (λ e. absurd (cc))) stands
  where
    of_next : (o : Option History) → ((k : History) → replayed k (next ∷ bodies) ≡ Some g → last_of (next ∷ bodies) ≡ Some g.last) → (o >>= λ k. replayed k (next ∷ bodies)) ≡ Some g → last_of (next ∷ bodies) ≡ Some g.last
    of_next None later e = cc
    of_next (Some k) later e = later k e

pub last_stands : (bodies : List (List ℕ)) (h : History) → Stands bodies h → last_of bodies ≡ Some h.last
last_stands bodies h stands = last_is bodies start h stands (λ e. refl)

pub same_last : (bodies : List (List ℕ)) (changes : List FileChange) (h : History) → last_of bodies ≡ Some changes → Stands bodies h → h.last ≡ changes
same_last bodies changes h last stands = some_both (sym (last_stands bodies h stands) ∙ last)
  where
    some_both : Some h.last ≡ Some changes → h.last ≡ changes
    some_both e = cc

-- a change that is finished is finished up to its last file
pub all_finished : (changes : List FileChange) (before after : Files) → after ≡ finished before changes → IsFinishedTo changes before after
all_finished changes before after is = (length changes, omega arith, is ∙ ap (finished before) (sym (take_all (length changes) changes (omega arith))))

-- and finishing it again changes nothing
pub once_finished : (changes : List FileChange) (before after : Files) → AreApart changes → after ≡ finished before changes → finished after changes ≡ after
once_finished changes before after apart is =
    ap (λ (s : Files). finished s changes) (is ∙ ap (finished before) (sym (take_all (length changes) changes (omega arith)))) ∙ finished_again changes before (length changes) apart ∙ sym is

-- ---- in turns

module _ {F D : Type 0} (m : FolderModel F) (n : DiskModel D) (f0 : F) (d0 : D) (tells : disk.Tells n d0) (settled : IsStable m f0) (may_stay : n.leaves d0 (n.seen d0)) where
  -- a file with the same records opens to the same
  pub same_opens : (x : Files) (y : List ℕ) (held : Held) → x ≡ m.seen f0 → SameRecords magic (n.seen d0) y → OpensTo (m.seen f0) (n.seen d0) held → OpensTo x y held
  same_opens x y held same (bodies, had, has) opens = record {
    bodies = opens.bodies;
    records = subst (λ b. Records magic y b) (one_records magic (n.seen d0) bodies opens.bodies had opens.records) has;
    history = opens.history;
    stands = opens.stands;
    files_are = ap (λ (s : Files). finished s opens.history.last) same ∙ opens.files_are;
    undoable_are = opens.undoable_are;
  }

  image_alike : (x : Files) (y : List ℕ) → x ≡ m.seen f0 → IsImageThen n d0 magic y → OpensAlike m n f0 d0 x y
  image_alike x y same (inl left) = record { before = y; left = left; alike = λ held opens. subst (λ s. OpensTo s y held) (sym same) opens; files_stay = inl same; journal_stays = inl refl }
  image_alike x y same (inr records) = record { before = n.seen d0; left = may_stay; alike = λ held opens. same_opens x y held same records opens; files_stay = inl same; journal_stays = inr records }

  -- while the journal is opened
  opening : (d1 : D) → disk.LeavesOnly n d0 d1 (IsImageThen n d0 magic) → LeavesOnly (crash_of n) d0 d1 (λ y. (x : Files) → m.leaves f0 x → OpensAlike m n f0 d0 x y)
  opening d1 run = disk_run n d0 d1 _ (moments.weaker n d0 d1 (IsImageThen n d0 magic) (λ y. (x : Files) → m.leaves f0 x → OpensAlike m n f0 d0 x y) run (λ y has x left. image_alike x y (settled x left) has))

  pub opening_alone : CountsNow (crash_of n) → (d1 : D) → disk.LeavesOnly n d0 d1 (IsImageThen n d0 magic) → InTurns m (crash_of n) (OpensAlike m n f0 d0) f0 d0 f0 d1
  opening_alone counts_now d1 run = ends_second m (crash_of n) counts_now (OpensAlike m n f0 d0) f0 d0 d1 (opening d1 run)

  -- while the files are finished
  module _ (d1 : D) (journal : Journal) (bodies : List (List ℕ)) (changes : List FileChange) (records : Records magic (n.seen d0) bodies) (on : IsOpenOn n magic journal d1 bodies) (last : last_of bodies ≡ Some changes) (apart : AreApart changes) where
    pub finished_opens : (x : Files) (y : List ℕ) (held : Held) → IsFinishedTo changes (m.seen f0) x → Records magic y bodies → OpensTo (m.seen f0) (n.seen d0) held → OpensTo x y held
    finished_opens x y held (j, inside, same) has opens =
        let bodies_same = one_records magic (n.seen d0) bodies opens.bodies records opens.records in
        let last_same = same_last bodies changes opens.history last (subst (λ b. Stands b opens.history) (sym bodies_same) opens.stands) in
        record {
          bodies = opens.bodies;
          records = subst (λ b. Records magic y b) bodies_same has;
          history = opens.history;
          stands = opens.stands;
          files_are = ap (finished x) last_same ∙ ap (λ (s : Files). finished s changes) same ∙ finished_again changes (m.seen f0) j apart ∙ ap (finished (m.seen f0)) (sym last_same) ∙ opens.files_are;
          undoable_are = opens.undoable_are;
        }

    pub opening_then_files : CountsNow m → (f1 : F) → disk.LeavesOnly n d0 d1 (IsImageThen n d0 magic) → LeavesOnly m f0 f1 (IsFinishedTo changes (m.seen f0)) → InTurns m (crash_of n) (OpensAlike m n f0 d0) f0 d0 f1 d1
    opening_then_files counts_now f1 run files = second f0 d0 d1 f1 d1 (opening d1 run)
        (ends_first m (crash_of n) counts_now (OpensAlike m n f0 d0) f0 f1 d1
        (weaker m f0 f1 (IsFinishedTo changes (m.seen f0)) (λ x. (y : List ℕ) → n.leaves d1 y → OpensAlike m n f0 d0 x y) files
        (λ x partly y left. record {
          before = n.seen d0;
          left = may_stay;
          alike = λ held opens. finished_opens x y held partly (open_records n journal d1 bodies y on left) opens;
          files_stay = inr (record { bodies = bodies; records = records; last = changes; last_is = last; partly = partly });
          journal_stays = inr (bodies, records, open_records n journal d1 bodies y on left);
        })))

-- the journal was opened, and the files were finished
module _ {F D : Type 0} (m : FolderModel F) (n : DiskModel D) (f0 f1 : F) (d0 d1 : D) (journal : Journal) (bodies : List (List ℕ)) (changes : List FileChange) (records : Records magic (n.seen d0) bodies) (on : IsOpenOn n magic journal d1 bodies)
    (last : last_of bodies ≡ Some changes) (apart : AreApart changes) where
  pub loaded : FaultsRise m f0 f1 → (Tells m f0 → IsStable m f0 → IsStable m f1) → (Tells m f0 → m.seen f1 ≡ finished (m.seen f0) changes) → StandAsBefore (n.seen d0) (n.seen d1) bodies → IsLoaded m n f0 f1 d0 d1 journal
  loaded kept stable seen places = record {
    bodies = bodies;
    records = records;
    offsets = places;
    open_on = on;
    last = changes;
    last_is = last;
    finished_now = seen;
    rest = λ told settled history stands. record {
      tells = kept.tells ∙ told;
      stable = stable told settled;
      open_on = on;
      stands = stands;
      whole = ap (finished (m.seen f1)) (same_last bodies changes history last stands) ∙ once_finished changes (m.seen f0) (m.seen f1) apart (seen told);
    };
  }

-- the last record by its number
pub last_by_number : (bodies : List (List ℕ)) (n : ℕ) → length bodies ≡ n + 1 → last_of bodies ≡ files_or (step_of (slice_index_or bodies n []))
last_by_number [] n long = absurd (omega (arith, long))
last_by_number (body ∷ []) zero long = refl
last_by_number (body ∷ []) (suc n) long = absurd (omega (arith, long))
last_by_number (body ∷ next ∷ bodies) zero long = absurd (omega (arith, long))
last_by_number (body ∷ next ∷ bodies) (suc n) long = last_by_number (next ∷ bodies) n (omega (arith, long))

-- a run, and then calls that only read
pub then_reads : {D : Type 0} (n : DiskModel D) → CountsNow (crash_of n) → (d0 d1 d2 : D) (P : List ℕ → Type 0) → disk.LeavesOnly n d0 d1 P → disk.Tells n d1 → disk.Untouched n d1 d2 → disk.LeavesOnly n d0 d2 P
then_reads n counts_now d0 d1 d2 P run tells read = moments.joined n d0 d1 d2 P run
    (moments.weaker n d1 d2 (n.leaves d1) P (read.run tells) (λ c left. run.each c (counts_now d1 (n.moment d0) c run.later left)))
