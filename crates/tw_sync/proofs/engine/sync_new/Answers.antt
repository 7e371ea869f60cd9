use Rattle.std.proofs.Common.{◌^◌, None, inl, inr, refl, subst}
use Rattle.tw_sync.proofs.StepTaken.{nothing_grown}
use Rattle.tw_replica.proofs.RecordAdded.{nothing_written}
use Rattle.tw_sync.specs.Start.Start.{Base, Snapshot}
use Rattle.tw_sync.specs.Replies.Given.{IsAskedFor}
use Rattle.tw_sync.specs.Ends.Causes.{of_ask}
use Rattle.tw_sync.proofs.GivenFacts.{known_start, honest_before}
use Rattle.tw_sync.proofs.Unheard.{unheard_any, ask_refused}
use Rattle.tw_sync.proofs.OpenRuns.{asked_any, no_reply, passed_open, ends_open}
use Rattle.tw_sync.proofs.engine.sync_new.Goals as goal

pub returns-in_err-given-clause-runs : goal.returns-in_err-given-clause-runs
returns-in_err-given-clause-runs g c =
    let e = c.in_err-given.field-0.0 in
    let u = c.in_err-given.ensures.unheard in
    passed_open g.D.Disk.model g.L.Link.model c.args.client c.args.host.now c.args.replica.now c.args.replica.now c.args.disk.now c.args.disk.now c.args.link.now c.ask_snapshot.new.link c.from_residual.result (of_ask e) c.from_residual.ensures.1
    (record {
      start = Base;
      begun = c.args.link.now;
      begins = inl refl;
      asks = λ fresh. inr (inr (no_reply e c.in_err-given.ensures.no_reply, u));
      rest = record {
        ends = record {
          any = unheard_any g.D.Disk.model g.L.Link.model c.args.client c.args.host.now Base c.args.replica.now c.args.disk.now c.args.link.now c.ask_snapshot.new.link (of_ask e) u
              (λ bodies on. nothing_written g.D.Disk.model g.met.D.Disk.only_now c.args.replica.now c.args.disk.now bodies None on) (λ bodies on. nothing_grown g.D.Disk.model g.met.D.Disk.only_now c.args.disk.now (2 ^ 30));
          done = tt;
          refused = ask_refused g.D.Disk.model g.L.Link.model c.args.client c.args.host.now c.args.replica.now c.args.disk.now c.args.link.now c.ask_snapshot.new.link e c.requires.open c.in_err-given.ensures.no_reply c.in_err-given.ensures.refused u;
        };
        letter = tt;
      };
    })

-- it is given a snapshot
pub sync_from-requires-clause-known : goal.sync_from-requires-clause-known
sync_from-requires-clause-known g c = λ honest.
    let m = g.L.Link.model in
    let old = c.args.link.now in
    let new = c.ask_snapshot.new.link in
    let asked = subst (IsAskedFor m c.args.client c.args.host.now old new) c.in-Some.is c.in_ok-given.ensures.asked in
    known_start (m.chain old) (m.chain new) c.in-Some.given.version c.in-Some.given.tasks (asked.stored (honest_before m c.args.client old new asked.asked_is.kept honest))

pub returns-in-Some-clause-runs : goal.returns-in-Some-clause-runs
returns-in-Some-clause-runs g c =
    let asked = subst (IsAskedFor g.L.Link.model c.args.client c.args.host.now c.args.link.now c.ask_snapshot.new.link) c.in-Some.is c.in_ok-given.ensures.asked in
    record {
      start = Snapshot c.in-Some.given.version c.in-Some.given.tasks;
      begun = c.ask_snapshot.new.link;
      begins = record { fresh = c.requires.fresh; asked = asked.asked_is; stored = asked.stored };
      asks = λ fresh. inl (asked_any g.L.Link.model c.args.client c.args.host.now c.args.link.now c.ask_snapshot.new.link _ asked.asked_is);
      rest = ends_open g.D.Disk.model g.L.Link.model c.args.client c.args.host.now (Snapshot c.in-Some.given.version c.in-Some.given.tasks) c.args.replica.now c.sync_from.new.replica c.args.disk.now c.sync_from.new.disk c.ask_snapshot.new.link c.sync_from.new.link c.sync_from.result
          c.sync_from.ensures.any c.sync_from.ensures.done c.sync_from.ensures.refused c.sync_from.ensures.letter;
    }

-- it is given none
pub returns-in-None-clause-runs : goal.returns-in-None-clause-runs
returns-in-None-clause-runs g c =
    let asked = subst (IsAskedFor g.L.Link.model c.args.client c.args.host.now c.args.link.now c.ask_snapshot.new.link) c.in-None.is c.in_ok-given.ensures.asked in
    record {
      start = Base;
      begun = c.ask_snapshot.new.link;
      begins = inr (record { fresh = c.requires.fresh; asked = asked.asked_is });
      asks = λ fresh. inl (asked_any g.L.Link.model c.args.client c.args.host.now c.args.link.now c.ask_snapshot.new.link _ asked.asked_is);
      rest = ends_open g.D.Disk.model g.L.Link.model c.args.client c.args.host.now Base c.args.replica.now c.meet_and_move.new.replica c.args.disk.now c.meet_and_move.new.disk c.ask_snapshot.new.link c.meet_and_move.new.link c.meet_and_move.result
          c.meet_and_move.ensures.any c.meet_and_move.ensures.done c.meet_and_move.ensures.refused c.meet_and_move.ensures.letter;
    }
