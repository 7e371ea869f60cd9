use Rattle.tw_cli.specs.Asked.{asked_by}
use Rattle.tw_cli.specs.Whole.{models, went}
use Rattle.tw_cli.proofs.Agreeing.{agreement_stays}
use Rattle.tw_cli.proofs.Events.{is_event}
use Rattle.tw_cli.proofs.Runs.{run_gives, run_complete, run_leaves}
use Rattle.tw_cli.proofs.Headline.{headline}
use Rattle.tw_cli.proofs.Staying.{state_stays}
use Rattle.tw_cli.proofs.run.task_run.Goals as goal

pub returns-clause-agrees : goal.returns-clause-agrees
returns-clause-agrees g c =
    agreement_stays (models g.D.Disk.model g.S.Source.model g.O.Sink.model g.L.Link.model g.P.Spawner.model g.F.Folder.model g.J.Disk.model)
    (went c.args.disk.now c.run_words-cause.new.disk c.args.input.now c.run_words-cause.new.input c.args.out.now c.run_words-cause.new.out c.args.link.now c.run_words-cause.new.link c.args.spawner.now c.run_words-cause.new.spawner c.args.folder.now c.run_words-cause.new.folder c.args.track.now c.run_words-cause.new.track)
    g.met.L.Link.tells_chain g.met.D.Disk.seen_may_stay g.met.D.Disk.counts_now
    (asked_by c.args.words.now c.args.settings.now c.args.now c.args.zone) c.args.ids.now c.run_words-cause.new.ids c.run_words-cause.result c.run_words-cause.ensures

pub returns-clause-world : goal.returns-clause-world
returns-clause-world g c =
    is_event (models g.D.Disk.model g.S.Source.model g.O.Sink.model g.L.Link.model g.P.Spawner.model g.F.Folder.model g.J.Disk.model)
    (went c.args.disk.now c.run_words-cause.new.disk c.args.input.now c.run_words-cause.new.input c.args.out.now c.run_words-cause.new.out c.args.link.now c.run_words-cause.new.link c.args.spawner.now c.run_words-cause.new.spawner c.args.folder.now c.run_words-cause.new.folder c.args.track.now c.run_words-cause.new.track)
    g.met.D.Disk.seen_may_stay g.met.D.Disk.counts_now g.met.D.Disk.only_now g.met.L.Link.tells_chain
    (asked_by c.args.words.now c.args.settings.now c.args.now c.args.zone) c.args.ids.now c.run_words-cause.new.ids c.run_words-cause.result c.run_words-cause.ensures

pub returns-clause-headline : goal.returns-clause-headline
returns-clause-headline g c =
    headline (models g.D.Disk.model g.S.Source.model g.O.Sink.model g.L.Link.model g.P.Spawner.model g.F.Folder.model g.J.Disk.model)
    (went c.args.disk.now c.run_words-cause.new.disk c.args.input.now c.run_words-cause.new.input c.args.out.now c.run_words-cause.new.out c.args.link.now c.run_words-cause.new.link c.args.spawner.now c.run_words-cause.new.spawner c.args.folder.now c.run_words-cause.new.folder c.args.track.now c.run_words-cause.new.track)
    g.met.L.Link.tells_chain g.met.D.Disk.seen_may_stay g.met.D.Disk.counts_now
    (asked_by c.args.words.now c.args.settings.now c.args.now c.args.zone) c.args.ids.now c.run_words-cause.new.ids c.run_words-cause.result c.run_words-cause.ensures

pub returns-clause-stays : goal.returns-clause-stays
returns-clause-stays g c =
    state_stays (models g.D.Disk.model g.S.Source.model g.O.Sink.model g.L.Link.model g.P.Spawner.model g.F.Folder.model g.J.Disk.model)
    (went c.args.disk.now c.run_words-cause.new.disk c.args.input.now c.run_words-cause.new.input c.args.out.now c.run_words-cause.new.out c.args.link.now c.run_words-cause.new.link c.args.spawner.now c.run_words-cause.new.spawner c.args.folder.now c.run_words-cause.new.folder c.args.track.now c.run_words-cause.new.track)
    (asked_by c.args.words.now c.args.settings.now c.args.now c.args.zone) c.args.ids.now c.run_words-cause.result
    (run_gives (models g.D.Disk.model g.S.Source.model g.O.Sink.model g.L.Link.model g.P.Spawner.model g.F.Folder.model g.J.Disk.model)
    (went c.args.disk.now c.run_words-cause.new.disk c.args.input.now c.run_words-cause.new.input c.args.out.now c.run_words-cause.new.out c.args.link.now c.run_words-cause.new.link c.args.spawner.now c.run_words-cause.new.spawner c.args.folder.now c.run_words-cause.new.folder c.args.track.now c.run_words-cause.new.track)
    (asked_by c.args.words.now c.args.settings.now c.args.now c.args.zone) c.args.ids.now c.run_words-cause.new.ids c.run_words-cause.result c.run_words-cause.ensures)

pub returns-clause-gives : goal.returns-clause-gives
returns-clause-gives g c =
    run_gives (models g.D.Disk.model g.S.Source.model g.O.Sink.model g.L.Link.model g.P.Spawner.model g.F.Folder.model g.J.Disk.model)
    (went c.args.disk.now c.run_words-cause.new.disk c.args.input.now c.run_words-cause.new.input c.args.out.now c.run_words-cause.new.out c.args.link.now c.run_words-cause.new.link c.args.spawner.now c.run_words-cause.new.spawner c.args.folder.now c.run_words-cause.new.folder c.args.track.now c.run_words-cause.new.track)
    (asked_by c.args.words.now c.args.settings.now c.args.now c.args.zone) c.args.ids.now c.run_words-cause.new.ids c.run_words-cause.result c.run_words-cause.ensures

pub returns-clause-complete : goal.returns-clause-complete
returns-clause-complete g c =
    run_complete (models g.D.Disk.model g.S.Source.model g.O.Sink.model g.L.Link.model g.P.Spawner.model g.F.Folder.model g.J.Disk.model)
    (went c.args.disk.now c.run_words-cause.new.disk c.args.input.now c.run_words-cause.new.input c.args.out.now c.run_words-cause.new.out c.args.link.now c.run_words-cause.new.link c.args.spawner.now c.run_words-cause.new.spawner c.args.folder.now c.run_words-cause.new.folder c.args.track.now c.run_words-cause.new.track)
    (asked_by c.args.words.now c.args.settings.now c.args.now c.args.zone) c.args.ids.now c.run_words-cause.new.ids c.run_words-cause.result c.run_words-cause.ensures

pub returns-clause-any_moment : goal.returns-clause-any_moment
returns-clause-any_moment g c =
    run_leaves (models g.D.Disk.model g.S.Source.model g.O.Sink.model g.L.Link.model g.P.Spawner.model g.F.Folder.model g.J.Disk.model)
    (went c.args.disk.now c.run_words-cause.new.disk c.args.input.now c.run_words-cause.new.input c.args.out.now c.run_words-cause.new.out c.args.link.now c.run_words-cause.new.link c.args.spawner.now c.run_words-cause.new.spawner c.args.folder.now c.run_words-cause.new.folder c.args.track.now c.run_words-cause.new.track)
    (asked_by c.args.words.now c.args.settings.now c.args.now c.args.zone) c.args.ids.now c.run_words-cause.new.ids c.run_words-cause.result c.run_words-cause.ensures
