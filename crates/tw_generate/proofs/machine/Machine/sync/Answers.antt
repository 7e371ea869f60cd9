use Rattle.std.proofs.Common.{subst, sym}
use Rattle.tw_world.specs.Memory.{memory_model}
use Rattle.tw_http.specs.Link.{IsHonest}
use Rattle.tw_outcome.specs.End.Answer.{Done}
use Rattle.tw_sync.specs.Ends.End.{counts_of}
use Rattle.tw_sync.proofs.Beginnings.{runs_ended, runs_kept}
use Rattle.tw_generate.specs.Links.{lone_link_model}
use Rattle.tw_generate.proofs.Machines.{open_after_sync}
use Rattle.tw_generate.proofs.machine.Machine.sync.Goals as goal

pub returns-in-Ok-clause-ended : goal.returns-in-Ok-clause-ended
returns-in-Ok-clause-ended c = λ honest.
    let run = c.in-Ok.ensures.runs in
    runs_ended memory_model lone_link_model c.from_bytes-client.result _ c.args.self.now.replica c.sync.new.replica c.args.self.now.disk c.sync.new.disk c.args.link.now c.sync.new.link _ run (Done (counts_of c.in-Ok.report))
    (subst (IsHonest lone_link_model c.args.link.now) (sym c.from_bytes-client.ensures) honest) run.rest.ends.done.ended

pub returns-in-Ok-clause-open : goal.returns-in-Ok-clause-open
returns-in-Ok-clause-open c =
    let run = c.in-Ok.ensures.runs in
    open_after_sync run.start c.args.self.now.replica c.sync.new.replica c.args.self.now.disk c.sync.new.disk _ run.rest.now c.requires.0 c.requires.1 (run.rest.ends.done.records c.requires.0 c.requires.1)

pub returns-in-Ok-clause-kept : goal.returns-in-Ok-clause-kept
returns-in-Ok-clause-kept c = runs_kept memory_model lone_link_model c.from_bytes-client.result _ c.args.self.now.replica c.sync.new.replica c.args.self.now.disk c.sync.new.disk c.args.link.now c.sync.new.link _ c.in-Ok.ensures.runs

pub returns-in-Err-clause-kept : goal.returns-in-Err-clause-kept
returns-in-Err-clause-kept c = runs_kept memory_model lone_link_model c.from_bytes-client.result _ c.args.self.now.replica c.sync.new.replica c.args.self.now.disk c.sync.new.disk c.args.link.now c.sync.new.link _ c.in-Err.ensures.runs
