-- A command whose store was not loaded.
use Rattle.std.proofs.Common.{◌≡◌, inl, inr, ℕ, List, [], ◌∷◌, ◌++◌, ◌⊎◌, length, Result, Ok, Err, refl, sym, ap, subst, ◌∙◌, arith}
use Rattle.std.specs.Prelude.{slice_index_or}
use Rattle.std.proofs.lemmas.List.{append-nil, length-append}
use Rattle.tw_time.specs.Moments.{TimeZone}
use Rattle.tw_world.specs.Disk.{DiskModel}
use Rattle.tw_world.specs.Disk as disk
use Rattle.tw_world.specs.Folder.{FolderModel}
use Rattle.tw_journal.specs.Open.{IsDamagedAt}
use Rattle.tw_journal.specs.declared.error.JournalError.TheVariants as fault
use Rattle.timew_month.specs.Body.{step_of}
use Rattle.timew_store.specs.Held.{magic, Held, OpensTo, IsAtRest}
use Rattle.timew_store.specs.Loading.{LeavesAlike, HoldsNoStep, Stays}
use Rattle.timew_store.specs.Store.{LoadRefused, IsLoadFault, LoadSparesDisk}
use Rattle.timew_interval.specs.declared.interval.Interval.{Interval}
use Rattle.timew_store.specs.declared.error.LoadError.{LoadError}
use Rattle.timew_store.specs.declared.error.LoadError.TheVariants as load
use Rattle.timew_words.specs.declared.command.Command.{Command}
use Rattle.timew_cli.specs.Cause.{load_cause}
use Rattle.timew_cli.specs.Carried.{with_rows}
use Rattle.timew_cli.specs.Run.{went, HoldsNoStepAt, Because, CanBeCarriedOut}
use Rattle.timew_cli.specs.declared.cause.Cause.TheVariants as causes

-- where the last record holds no step, a record holds none
ends_at : (file : List ℕ) (offset : ℕ) → HoldsNoStep file offset → HoldsNoStepAt file offset
ends_at file offset holds = record {
  bodies = holds.bodies;
  records = holds.records;
  number = length holds.end.front;
  inside = omega (arith, ap length holds.end.split, length-append holds.end.front (holds.end.body ∷ []));
  none = (
    ap step_of (ap (λ (l : List (List ℕ)). slice_index_or l (length holds.end.front) []) holds.end.split ∙ last_of holds.end.front holds.end.body) ∙ holds.end.none,
    holds.end.offset_is,
  );
}
  where
    last_of : (front : List (List ℕ)) (body : List ℕ) → slice_index_or (front ++ body ∷ []) (length front) [] ≡ body
    last_of [] body = refl
    last_of (b ∷ front) body = last_of front body

module _ {F D : Type 0} (m : FolderModel F) (n : DiskModel D) (command : Command) (now : ℕ) (zone : TimeZone) where
  module _ (f0 f1 : F) (d0 d1 : D) where
    pub load_ends : (e : LoadError) → LoadRefused m n f0 f1 d0 d1 e → (LoadSparesDisk e → Stays m n f0 f1 d0 d1) → LeavesAlike m n f0 f1 d0 d1 → Because m n command now zone (went f0 f1 d0 d1) (load_cause e)
    load_ends load.Folder r stays alike = (r, inl (record { stays = inr (stays tt); any_moment = alike }))
    load_ends (load.Journal fault.Disk) r stays alike = (r.1, inl (record { stays = inl r.0; any_moment = alike }))
    load_ends (load.Journal fault.Memory) r stays alike = record { stays = stays tt; any_moment = alike }
    load_ends (load.Journal (fault.Damaged offset)) r stays alike = (λ tells. of_either (r.1 tells), record { stays = stays tt; any_moment = alike })
      where
        of_either : IsDamagedAt magic (n.seen d0) offset ⊎ HoldsNoStep (n.seen d0) offset → IsDamagedAt magic (n.seen d0) offset ⊎ HoldsNoStepAt (n.seen d0) offset
        of_either (inl damaged) = inl damaged
        of_either (inr none) = inr (ends_at (n.seen d0) offset none)
    load_ends (load.Journal (fault.TooLong bytes)) r stays alike = absurd r.1
    load_ends (load.Journal fault.Closed) r stays alike = absurd r.1
    load_ends (load.BadLine file line) r stays alike = λ held opens.
        let bad = r.1 opens.told opens.settled opens.tells held opens.opens in (
          ap (λ (found : Result (List Interval) (List ℕ × ℕ)). with_rows command held found now zone) bad.0,
          record {
            bodies = bad.1.bodies;
            had = bad.1.had;
            journal = bad.1.journal;
            history = bad.1.history;
            rest = subst (λ (b : List (List ℕ)). IsAtRest m n bad.1.journal f1 d1 b bad.1.history) (sym (append-nil bad.1.bodies)) bad.1.rest;
            holds = bad.1.holds;
          },
        )
    load_ends load.Memory r stays alike = record { stays = stays tt; any_moment = alike }

    pub load_wants : (e : LoadError) → LoadRefused m n f0 f1 d0 d1 e → ((held : Held) → disk.Tells n d0 → OpensTo (m.seen f0) (n.seen d0) held → IsLoadFault e) → CanBeCarriedOut m n command now zone (went f0 f1 d0 d1) → load_cause e ≡ causes.Memory
    load_wants load.Folder r sound can = absurd (can.folder_well r)
    load_wants (load.Journal fault.Disk) r sound can = absurd (can.disk_well r.1)
    load_wants (load.Journal fault.Memory) r sound can = refl
    load_wants (load.Journal (fault.Damaged offset)) r sound can = absurd (sound can.held can.opens.tells can.opens.opens)
    load_wants (load.Journal (fault.TooLong bytes)) r sound can = absurd r.1
    load_wants (load.Journal fault.Closed) r sound can = absurd r.1
    load_wants (load.BadLine file line) r sound can =
        let bad = r.1 can.opens.told can.opens.settled can.opens.tells can.held can.opens.opens in
        absurd (apart (sym can.is ∙ ap (λ (found : Result (List Interval) (List ℕ × ℕ)). with_rows command can.held found now zone) bad.0))
      where
        apart : Ok can.carried ≡ Err (causes.BadLine file line) → ⊥
        apart e = cc
    load_wants load.Memory r sound can = refl
