use Rattle.std.proofs.Common.{inl, refl}
use Rattle.tw_sync.specs.Start.Start.{Base}
use Rattle.tw_sync.proofs.OpenRuns.{ends_open}
use Rattle.tw_sync.proofs.engine.sync_open.Goals as goal

-- the replica is not new
pub returns-clause-runs : goal.returns-clause-runs
returns-clause-runs g c = record {
  start = Base;
  begun = c.args.link.now;
  begins = inl refl;
  asks = λ fresh. absurd (c.is_new.ensures.known c.if-is_new.false fresh);
  rest = ends_open g.D.Disk.model g.L.Link.model c.args.client c.args.host.now Base c.args.replica.now c.meet_and_move.new.replica c.args.disk.now c.meet_and_move.new.disk c.args.link.now c.meet_and_move.new.link c.meet_and_move.result
      c.meet_and_move.ensures.any c.meet_and_move.ensures.done c.meet_and_move.ensures.refused c.meet_and_move.ensures.letter;
}
