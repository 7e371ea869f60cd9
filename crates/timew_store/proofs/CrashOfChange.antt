-- What a crash leaves while a change is written.
use Rattle.std.proofs.Common.{◌≡◌, inl, inr, ⊎_elim, ℕ, List, [], ◌∷◌, ◌++◌, length, Option, Some, None, refl, sym, ap, ◌∙◌, arith}
use Rattle.std.proofs.lemmas.List.{take_all}
use Rattle.tw_world.specs.Disk.{DiskModel}
use Rattle.tw_world.specs.Disk as disk
use Rattle.tw_world.proofs.Moments as moments
use Rattle.tw_world.specs.Crash.{Tells, IsStable, LeavesOnly}
use Rattle.tw_world.specs.Turns.{InTurns, crash_of}
use Rattle.tw_world.specs.Turns.InTurns.{second}
use Rattle.tw_world.specs.Folder.{Files, FolderModel}
use Rattle.tw_world.proofs.Crashes.{CountsNow, weaker}
use Rattle.tw_world.proofs.TurnRules.{disk_run, ends_first, ends_second}
use Rattle.tw_journal.proofs.Offsets.{left_records}
use Rattle.tw_journal.specs.Open.{Records}
use Rattle.tw_journal.specs.Journal.{IsOpenOn, RecordsOrMore}
use Rattle.tw_journal.specs.declared.journal.Journal.{Journal}
use Rattle.timew_month.specs.Body.{FileChange, ◌>>=◌}
use Rattle.timew_store.specs.History.{History, start, stepped, replayed, Stands}
use Rattle.timew_store.specs.Held.{magic, finished, Held, OpensTo, OpensToEither, IsPartly, IsAtRest, held_by}
use Rattle.timew_month.specs.Files.{replaced}
use Rattle.timew_store.specs.Writing.{IsReadyFor}
use Rattle.timew_store.proofs.FinishedFiles.{finished_partly}
use Rattle.timew_store.proofs.BodyLength.{last_length, short_body}

-- the records of a journal that is open
pub open_records : {D : Type 0} (n : DiskModel D) (journal : Journal) (d : D) (bodies : List (List ℕ)) (c : List ℕ) → IsOpenOn n magic journal d bodies → n.leaves d c → Records magic c bodies
open_records n journal d bodies c on left = left_records n magic journal d bodies on c left

pub replayed-push : (bodies : List (List ℕ)) (h : History) (body : List ℕ) → replayed h (bodies ++ body ∷ []) ≡ (replayed h bodies >>= λ g. stepped g body)
replayed-push [] h body = last_step (stepped h body)
  where
    last_step : (o : Option History) → (o >>= λ g. Some g) ≡ o
    last_step (Some g) = refl
    last_step None = refl
replayed-push (b ∷ bodies) h body = elim (stepped h b) as (λ o. (o >>= λ g. replayed g (bodies ++ body ∷ [])) ≡ ((o >>= λ g. replayed g bodies) >>= λ g. stepped g body)) [
  | Some g ↦ replayed-push bodies g body
  | None ↦ refl
]

pub stands_more : (bodies : List (List ℕ)) (h g : History) (body : List ℕ) → Stands bodies h → stepped h body ≡ Some g → Stands (bodies ++ body ∷ []) g
stands_more bodies h g body stands step = replayed-push bodies start body ∙ ap (λ (o : Option History). o >>= λ g. stepped g body) stands ∙ step

module _ {F D : Type 0} (m : FolderModel F) (n : DiskModel D) (journal : Journal) (f0 : F) (d0 : D) (bodies : List (List ℕ)) (before after : History) (body : List ℕ) (changes : List FileChange) (ready : IsReadyFor m n journal f0 d0 bodies before after body changes) where
  abbrev pub then : Held
  then = record { files = replaced (m.seen f0) changes; undoable = after.undoable }

  abbrev pub Either : Files → List ℕ → Type 0
  Either = OpensToEither (held_by m f0 before) then

  opens_before : (x : Files) (c : List ℕ) → x ≡ m.seen f0 → Records magic c bodies → OpensTo x c (held_by m f0 before)
  opens_before x c same has = record {
    bodies = bodies;
    records = has;
    history = before;
    stands = ready.rest.stands;
    files_are = ap (λ (s : Files). finished s before.last) same ∙ ready.rest.whole;
    undoable_are = refl;
  }

  pub opens_after : (x : Files) (c : List ℕ) → IsPartly changes (m.seen f0) x → Records magic c (bodies ++ body ∷ []) → OpensTo x c then
  opens_after x c partly has = record {
    bodies = bodies ++ body ∷ [];
    records = has;
    history = after;
    stands = stands_more bodies before after body ready.rest.stands (ready.step (short_body bodies body c has));
    files_are = ap (finished x) ready.last ∙ ap (λ (s : Files). finished s changes) partly.2 ∙ finished_partly changes (m.seen f0) partly.0 ready.apart ready.old;
    undoable_are = refl;
  }

  none_replaced : (x : Files) → x ≡ m.seen f0 → IsPartly changes (m.seen f0) x
  none_replaced x same = (0, omega arith, same)

  either_of : (x : Files) (c : List ℕ) → m.leaves f0 x → RecordsOrMore magic bodies body c → Either x c
  either_of x c left has = ⊎_elim
      (λ old. inl (opens_before x c (ready.rest.stable x left) old))
      (λ more. inr (opens_after x c (none_replaced x (ready.rest.stable x left)) more)) has

  -- while the record is written the folder rests
  module _ (d1 : D) (run : disk.LeavesOnly n d0 d1 (RecordsOrMore magic bodies body)) where
    journal_run : LeavesOnly (crash_of n) d0 d1 (λ c. (x : Files) → m.leaves f0 x → Either x c)
    journal_run = disk_run n d0 d1 (λ c. (x : Files) → m.leaves f0 x → Either x c)
        (moments.weaker n d0 d1 (RecordsOrMore magic bodies body) (λ c. (x : Files) → m.leaves f0 x → Either x c) run (λ c has x left. either_of x c left has))

    pub record_alone : CountsNow (crash_of n) → InTurns m (crash_of n) Either f0 d0 f0 d1
    record_alone counts_now = ends_second m (crash_of n) counts_now Either f0 d0 d1 journal_run

    -- while the files are replaced the journal rests
    pub record_then_files : CountsNow m → (new : Journal) (f1 : F) → IsOpenOn n magic new d1 (bodies ++ body ∷ []) → LeavesOnly m f0 f1 (IsPartly changes (m.seen f0)) → InTurns m (crash_of n) Either f0 d0 f1 d1
    record_then_files counts_now new f1 on files = second f0 d0 d1 f1 d1 journal_run
        (ends_first m (crash_of n) counts_now Either f0 f1 d1
        (weaker m f0 f1 (IsPartly changes (m.seen f0)) (λ x. (c : List ℕ) → n.leaves d1 c → Either x c) files (λ x partly c left. inr (opens_after x c partly (open_records n new d1 (bodies ++ body ∷ []) c on left)))))

  pub rests_again : (new : Journal) (f1 : F) (d1 : D) → IsOpenOn n magic new d1 (bodies ++ body ∷ []) → Tells m f1 → IsStable m f1 → m.seen f1 ≡ replaced (m.seen f0) changes → IsAtRest m n new f1 d1 (bodies ++ body ∷ []) after
  rests_again new f1 d1 on tells settled seen = record {
    tells = tells;
    stable = settled;
    open_on = on;
    stands = stands_more bodies before after body ready.rest.stands (ready.step (last_length bodies body on.rest.lengths));
    whole = ap (finished (m.seen f1)) ready.last ∙ ap (λ (s : Files). finished s changes) (seen ∙ ap (replaced (m.seen f0)) (sym (take_all (length changes) changes (omega arith))))
        ∙ finished_partly changes (m.seen f0) (length changes) ready.apart ready.old ∙ sym seen;
  }
