-- The walk from the last record back to the change that an undo takes back.
use Rattle.std.specs.Prelude.{cond, slice_get, slice_index_or}
use Rattle.std.proofs.Common.{◌≡◌, ℕ, zero, suc, ◌+◌, ◌-◌, ◌≤◌, ◌<◌, Bool, true, false, List, [], ◌∷◌, length, take, Option, Some, None, refl, sym, ap, subst, ◌∙◌, add-one, arith}
use Rattle.std.proofs.lemmas.List.{take_all, take_more}
use Rattle.tw_world.specs.Disk.{DiskModel}
use Rattle.tw_world.specs.Disk as disk
use Rattle.tw_journal.specs.Journal.{IsOpenOn}
use Rattle.tw_journal.specs.declared.journal.Journal.{Journal}
use Rattle.tw_journal.proofs.Offsets.{still_open}
use Rattle.timew_month.specs.Body.{FileChange, Step, step_of, ◌>>=◌}
use Rattle.timew_month.specs.Body.Step.{Change, Undo}
use Rattle.timew_store.specs.Held.{magic}
use Rattle.timew_store.specs.History.{History, Stands, start, applied, stepped, replayed, with_change, undone, exchanged, same_files}
use Rattle.timew_month.specs.Records.{changes_of, step_in}
use Rattle.timew_month.specs.declared.body.Record.{Record}
use Rattle.timew_month.specs.declared.body.Record.TheVariants as records
use Rattle.timew_month.specs.declared.months.NewFile.{NewFile}
use Rattle.std.specs.Global.{Vec}
use Rattle.tw_world.proofs.Moments.{untouched_join}
use Rattle.timew_store.proofs.CrashOfChange.{replayed-push}

-- ---- from the last record back

-- the history one step before, and the step
pub record IsOneBack (bodies : List (List ℕ)) (n : ℕ) (step : Step) (g : History) : Type 0 where
  pub before : History
  pub stands : Stands (take n bodies) before
  pub leads : applied before step ≡ Some g

pub one_back : (bodies : List (List ℕ)) (n : ℕ) (step : Step) (g : History) → n < length bodies → step_of (slice_index_or bodies n []) ≡ Some step → Stands (take (n + 1) bodies) g → IsOneBack bodies n step g
one_back bodies n step g lt is stands =
    of_before (replayed start (take n bodies)) refl
    (sym (replayed-push (take n bodies) start (slice_index_or bodies n [])) ∙ ap (replayed start) (sym (take_more bodies n [] lt)) ∙ stands)
  where
    of_step : (h : History) → stepped h (slice_index_or bodies n []) ≡ Some g → applied h step ≡ Some g
    of_step h e = sym (ap (λ (o : Option Step). o >>= applied h) is) ∙ e

    of_before : (o : Option History) → replayed start (take n bodies) ≡ o → (o >>= λ h. stepped h (slice_index_or bodies n [])) ≡ Some g → IsOneBack bodies n step g
    of_before None here e = absurd (cc)
    of_before (Some h) here e = record { before = h; stands = here; leads = of_step h e }

-- what the walk knows
pub record WalkedTo (bodies : List (List ℕ)) (history : History) (n depth : ℕ) : Type 0 where
  pub now : History
  pub stands : Stands (take n bodies) now
  pub same : slice_get history.undoable 0 ≡ slice_get now.undoable depth

undone_one : (files : List FileChange) (h g : History) (depth : ℕ) → applied h (Undo files) ≡ Some g → slice_get g.undoable depth ≡ slice_get h.undoable (suc depth)
undone_one files h g depth e = of_stack h.undoable refl e
  where
    of_stack : (stack : List (List FileChange)) → h.undoable ≡ stack → undone files stack ≡ Some g → slice_get g.undoable depth ≡ slice_get h.undoable (suc depth)
    of_stack [] here is = absurd (cc)
    of_stack (change ∷ earlier) here is = of_case (same_files files (exchanged change)) is
      where
        of_case : (b : Bool) → cond b (Some (record { undoable = earlier; last = files })) None ≡ Some g → slice_get g.undoable depth ≡ slice_get h.undoable (suc depth)
        of_case false is = absurd (cc)
        of_case true is = let same : record { undoable = earlier; last = files } ≡ g = cc in sym (ap (λ (k : History). slice_get k.undoable depth) same) ∙ sym (ap (λ (l : List (List FileChange)). slice_get l (suc depth)) here)

changed_one : (files : List FileChange) (h g : History) → applied h (Change files) ≡ Some g → g.undoable ≡ files ∷ h.undoable
changed_one files h g e = let same : with_change files h ≡ g = cc in sym (ap (λ (k : History). k.undoable) same)

pub walked_over_undo : (bodies : List (List ℕ)) (history : History) (n depth : ℕ) (files : List FileChange) → n < length bodies → step_of (slice_index_or bodies n []) ≡ Some (Undo files) → WalkedTo bodies history (n + 1) depth → WalkedTo bodies history n (depth + 1)
walked_over_undo bodies history n depth files lt is walked =
    let back = one_back bodies n (Undo files) walked.now lt is walked.stands in
    record { now = back.before; stands = back.stands; same = walked.same ∙ undone_one files back.before walked.now depth back.leads ∙ ap (λ (d : ℕ). slice_get back.before.undoable d) (sym (add-one depth)) }

pub walked_over_change : (bodies : List (List ℕ)) (history : History) (n depth : ℕ) (files : List FileChange) → n < length bodies → step_of (slice_index_or bodies n []) ≡ Some (Change files) → WalkedTo bodies history (n + 1) (depth + 1) → WalkedTo bodies history n depth
walked_over_change bodies history n depth files lt is walked =
    let back = one_back bodies n (Change files) walked.now lt is walked.stands in
    record { now = back.before; stands = back.stands; same = walked.same ∙ ap (λ (l : List (List FileChange)). slice_get l (depth + 1)) (changed_one files back.before walked.now back.leads) ∙ ap (λ (d : ℕ). slice_get (files ∷ back.before.undoable) d) (add-one depth) }

pub walked_to_change : (bodies : List (List ℕ)) (history : History) (n : ℕ) (files : List FileChange) → n < length bodies → step_of (slice_index_or bodies n []) ≡ Some (Change files) → WalkedTo bodies history (n + 1) 0 → Some files ≡ slice_get history.undoable 0
walked_to_change bodies history n files lt is walked =
    let back = one_back bodies n (Change files) walked.now lt is walked.stands in
    sym (walked.same ∙ ap (λ (l : List (List FileChange)). slice_get l 0) (changed_one files back.before walked.now back.leads))

pub walk_begun : (bodies : List (List ℕ)) (history : History) (n : ℕ) → length bodies ≤ n → Stands bodies history → WalkedTo bodies history n 0
walk_begun bodies history n le stands = record { now = history; stands = ap (replayed start) (take_all n bodies le) ∙ stands; same = refl }

pub walk_ended : (bodies : List (List ℕ)) (history : History) (n depth : ℕ) → n ≤ 0 → WalkedTo bodies history n depth → None ≡ slice_get history.undoable 0
walk_ended bodies history zero depth le walked =
    let same : start ≡ walked.now = some_both walked.stands in
    sym (walked.same ∙ ap (λ (h : History). slice_get h.undoable depth) (sym same))
  where
    some_both : Some start ≡ Some walked.now → start ≡ walked.now
    some_both e = cc
walk_ended bodies history (suc n) depth le walked = absurd (omega arith)

-- what the loop knows
pub record IsWalking {D : Type 0} (m : DiskModel D) (journal : Journal) (first now : D) (n depth : ℕ) : Type 0 where
  pub inside : n + depth ≤ journal.count
  pub untouched : disk.Untouched m first now
  pub walked : (bodies : List (List ℕ)) (history : History) → IsOpenOn m magic journal first bodies → Stands bodies history → WalkedTo bodies history n depth

-- what a record makes of the depth
abbrev pub Deepens : Record → ℕ → ℕ → Type 0
Deepens (records.Undo files) depth next = next ≡ depth + 1
Deepens (records.Change files) depth next = depth ≡ next + 1

module _ {D : Type 0} (m : DiskModel D) (journal : Journal) (first now : D) (n depth : ℕ) (held : Record) (walking : IsWalking m journal first now n depth) (some : 0 < n)
    (is : (bodies : List (List ℕ)) → IsOpenOn m magic journal now bodies → step_of (slice_index_or bodies (n - 1) []) ≡ Some (step_in held)) where
  step_is : (bodies : List (List ℕ)) → IsOpenOn m magic journal first bodies → step_of (slice_index_or bodies (n - 1) []) ≡ Some (step_in held)
  step_is bodies on = is bodies (still_open m magic journal first now bodies walking.untouched on)

  inside : (bodies : List (List ℕ)) → IsOpenOn m magic journal first bodies → n - 1 < length bodies
  inside bodies on = omega (arith, walking.inside, on.count, some)

  walked_here : (bodies : List (List ℕ)) (history : History) → IsOpenOn m magic journal first bodies → Stands bodies history → WalkedTo bodies history ((n - 1) + 1) depth
  walked_here bodies history on stands = let whole : n ≡ (n - 1) + 1 = omega (arith, some) in subst (λ (k : ℕ). WalkedTo bodies history k depth) whole (walking.walked bodies history on stands)

  pub walking_on : (later : D) (next : ℕ) → disk.Untouched m now later → Deepens held depth next → IsWalking m journal first later (n - 1) next
  walking_on later next read deepens = by_case held deepens (λ bodies on. step_is bodies on)
    where
      whole : disk.Untouched m first later
      whole = untouched_join m first now later walking.untouched read

      by_case : (h : Record) → Deepens h depth next → ((bodies : List (List ℕ)) → IsOpenOn m magic journal first bodies → step_of (slice_index_or bodies (n - 1) []) ≡ Some (step_in h)) → IsWalking m journal first later (n - 1) next
      by_case (records.Undo files) deepens step = record {
        inside = omega (arith, walking.inside, some, deepens);
        untouched = whole;
        walked = λ bodies history on stands. subst (λ (d : ℕ). WalkedTo bodies history (n - 1) d) (sym deepens) (walked_over_undo bodies history (n - 1) depth (changes_of files.items) (inside bodies on) (step bodies on) (walked_here bodies history on stands));
      }
      by_case (records.Change files) deepens step = record {
        inside = omega (arith, walking.inside, some, deepens);
        untouched = whole;
        walked = λ bodies history on stands. walked_over_change bodies history (n - 1) next (changes_of files.items) (inside bodies on) (step bodies on) (subst (λ (d : ℕ). WalkedTo bodies history ((n - 1) + 1) d) deepens (walked_here bodies history on stands));
      }

  pub walking_found : (files : Vec NewFile) → held ≡ records.Change files → depth ≡ 0 → (bodies : List (List ℕ)) (history : History) → IsOpenOn m magic journal first bodies → Stands bodies history → Some (changes_of files.items) ≡ slice_get history.undoable 0
  walking_found files held_is none bodies history on stands =
      walked_to_change bodies history (n - 1) (changes_of files.items) (inside bodies on) (step_is bodies on ∙ ap (λ (h : Record). Some (step_in h)) held_is)
      (subst (λ (d : ℕ). WalkedTo bodies history ((n - 1) + 1) d) none (walked_here bodies history on stands))
