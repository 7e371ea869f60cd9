use Rattle.std.proofs.Common.{◌∙◌, subst, Result}
use Rattle.tw_sync.specs.declared.report.SyncReport.{SyncReport}
use Rattle.tw_cli.specs.SyncRuns.{SyncRuns}
use Rattle.tw_cli.specs.declared.syncing.SyncFailure.{SyncFailure}
use Rattle.tw_cli.proofs.Endings.{synced_ends, failed_ends}
use Rattle.tw_cli.proofs.syncing.run_sync.Goals as goal

pub returns-in-Ok-clause-runs : goal.returns-in-Ok-clause-runs
returns-in-Ok-clause-runs g c =
    synced_ends g.D.Disk.model g.O.Sink.model g.L.Link.model c.args.server.now c.args.disk.now c.sync_with.new.disk c.args.out.now c.print.new.out c.args.link.now c.sync_with.new.link c.in-Ok.report c.as_bytes.result.now c.print.result
    (c.as_bytes.ensures.value ∙ c.as_str.ensures.value ∙ c.synced_text.ensures) c.print.ensures
    (subst (λ (r : Result SyncReport SyncFailure). SyncRuns g.D.Disk.model g.L.Link.model c.args.server.now c.args.disk.now c.sync_with.new.disk c.args.link.now c.sync_with.new.link r) c.in-Ok.is c.sync_with.ensures.runs)

pub returns-in-Err-clause-runs : goal.returns-in-Err-clause-runs
returns-in-Err-clause-runs g c =
    failed_ends g.D.Disk.model g.O.Sink.model g.L.Link.model c.args.server.now c.args.disk.now c.sync_with.new.disk c.args.out.now c.args.link.now c.sync_with.new.link c.in-Err.error c.from.result c.from.ensures
    (subst (λ (r : Result SyncReport SyncFailure). SyncRuns g.D.Disk.model g.L.Link.model c.args.server.now c.args.disk.now c.sync_with.new.disk c.args.link.now c.sync_with.new.link r) c.in-Err.is c.sync_with.ensures.runs)
