use Rattle.std.proofs.Common.{◌≡◌, ◌^◌, true, None, inl, inr, refl, sym, ap, ◌∙◌}
use Rattle.tw_journal.specs.Journal.{is_closed}
use Rattle.tw_sync.proofs.StepTaken.{nothing_grown}
use Rattle.tw_replica.proofs.RecordAdded.{nothing_written}
use Rattle.tw_sync.specs.Start.Start.{Base}
use Rattle.tw_journal.specs.declared.error.AppendError.TheVariants as journal
use Rattle.tw_sync.specs.declared.error.SyncError.TheVariants as errors
use Rattle.tw_sync.proofs.Unheard.{unasked, unheard_any, closed_end}
use Rattle.std.proofs.Common.{Ok, List, ℕ, subst}
use Rattle.std.specs.Prelude.{option_map}
use Rattle.tw_http.specs.Requests.{IsRequestAnswer}
use Rattle.tw_http.specs.declared.message.Request.TheVariants as asks
use Rattle.tw_snapshot.specs.Snapshot.{snapshot_text}
use Rattle.tw_sync.specs.Ends.Offer.{StoresTasks, IsLetterFor}
use Rattle.tw_state.specs.Core.{state_of}
use Rattle.tw_sync.specs.Contract.{Runs}
use Rattle.tw_sync.proofs.Offering.{runs_sent, runs_silent, runs_refused}
use Rattle.tw_sync.proofs.engine.sync.Goals as goal
use Rattle.tw_sync.proofs.engine.sync.Goals.{in-Some, in-None}

-- the replica is closed
pub returns-then-is_closed-clause-runs : goal.returns-then-is_closed-clause-runs
returns-then-is_closed-clause-runs g c =
    let whole = g.met.L.Link.tells_chain c.args.link.now in
    let e = errors.Journal journal.Closed in
    let closed : is_closed c.args.replica.now.journal ≡ true = sym c.is_closed.ensures ∙ c.if-is_closed.true in
    record {
      start = Base;
      begun = c.args.link.now;
      begins = inl refl;
      asks = λ fresh. inr (inl closed);
      rest = record {
        now = c.args.link.now;
        ends = record {
          any = unheard_any g.D.Disk.model g.L.Link.model c.args.client c.args.host.now Base c.args.replica.now c.args.disk.now c.args.link.now c.args.link.now e (unasked g.L.Link.model c.args.client c.args.host.now c.args.link.now e whole)
              (λ bodies on. nothing_written g.D.Disk.model g.met.D.Disk.only_now c.args.replica.now c.args.disk.now bodies None on) (λ bodies on. nothing_grown g.D.Disk.model g.met.D.Disk.only_now c.args.disk.now (2 ^ 30));
          done = tt;
          refused = closed_end g.D.Disk.model g.L.Link.model c.args.client c.args.host.now c.args.replica.now c.args.disk.now c.args.link.now whole closed;
        };
        offers = refl;
        wanted = tt;
        unwanted = tt;
      };
    }

-- it is done, and sends the snapshot, or not
pub offer-requires : goal.offer-requires
offer-requires g c =
    let core = c.sync_open.new.replica.core in
    let stores = subst (λ o. IsLetterFor c.args.client c.args.host.now (state_of core) (option_map (λ v. v.items) o)) c.in-Some.is c.in-Ok.ensures.runs.rest.letter.letter_is in
    (core.base, snapshot_text core.tasks, subst (λ (b : List ℕ). IsRequestAnswer b (Ok (asks.AddSnapshot c.args.client core.base (snapshot_text core.tasks)))) (sym c.as_slice.ensures.value) stores.1.read)

pub returns-after-done-clause-runs : goal.returns-after-done-clause-runs
returns-after-done-clause-runs g c =
    let core = c.sync_open.new.replica.core in
    let now = c.sync_open.new.link in
    let letter = c.in-Ok.ensures.runs.rest.letter.letter_is in
    elim c.match-done.branch [
      | in-Some w ↦ subst (λ l. Runs g.D.Disk.model g.L.Link.model c.args.client c.args.host.now c.args.replica.now c.sync_open.new.replica c.args.disk.now c.sync_open.new.disk c.args.link.now l (Ok c.in-Ok.done.report)) (sym w.link-is)
          (runs_sent g.D.Disk.model g.L.Link.model c.args.client c.args.host.now c.args.replica.now c.sync_open.new.replica c.args.disk.now c.sync_open.new.disk c.args.link.now now c.in-Ok.done w.offer.new.link
          (subst (λ o. ¬ (option_map (λ v. v.items) o ≡ None)) (sym w.in-Some.is) (λ none. absurd cc))
          (record {
            nothing = (subst (λ o. IsLetterFor c.args.client c.args.host.now (state_of core) (option_map (λ v. v.items) o)) w.in-Some.is letter).0;
            text = w.as_slice.result.now;
            stores = subst (λ (b : List ℕ). StoresTasks c.args.client c.args.host.now core.base core.tasks b) (sym w.as_slice.ensures.value)
                (subst (λ o. IsLetterFor c.args.client c.args.host.now (state_of core) (option_map (λ v. v.items) o)) w.in-Some.is letter).1;
            offers = w.offer.ensures;
          }) c.in-Ok.ensures.runs)
      | in-None w ↦ subst (λ l. Runs g.D.Disk.model g.L.Link.model c.args.client c.args.host.now c.args.replica.now c.sync_open.new.replica c.args.disk.now c.sync_open.new.disk c.args.link.now l (Ok c.in-Ok.done.report)) (sym w.link-is)
          (runs_silent g.D.Disk.model g.L.Link.model c.args.client c.args.host.now c.args.replica.now c.sync_open.new.replica c.args.disk.now c.sync_open.new.disk c.args.link.now now c.in-Ok.done (ap (option_map (λ v. v.items)) w.in-None.is) c.in-Ok.ensures.runs)
    ]

-- it is refused
pub returns-in-Err-clause-runs : goal.returns-in-Err-clause-runs
returns-in-Err-clause-runs g c = runs_refused g.D.Disk.model g.L.Link.model c.args.client c.args.host.now c.args.replica.now c.sync_open.new.replica c.args.disk.now c.sync_open.new.disk c.args.link.now c.sync_open.new.link c.in-Err.error c.in-Err.ensures.runs
