use Rattle.std.proofs.Common.{◌∙◌, ◌+◌, length, arith}
use Rattle.timew_store.specs.Held.{magic}
use Rattle.timew_store.specs.Growth.{record_size}
use Rattle.timew_month.specs.Records.{changes_of}
use Rattle.timew_store.proofs.Growth.{append_grows, grows_within}
use Rattle.timew_store.proofs.CrashOfChange.{record_alone, record_then_files, rests_again}
use Rattle.timew_store.proofs.write.change.write_change.Goals as goal

pub returns-in-Err-clause-any_moment : goal.returns-in-Err-clause-any_moment
returns-in-Err-clause-any_moment g c = λ bodies before after ready.
    record_alone g.F.Folder.model g.D.Disk.model c.args.journal.now c.args.folder.now c.args.disk.now bodies before after c.args.body.now (changes_of c.args.files.now.items) ready c.append.new.disk
    (c.append.ensures.any_moment magic bodies ready.rest.open_on) g.met.D.Disk.counts_now

pub returns-in-Err-replace_all-clause-any_moment : goal.returns-in-Err-replace_all-clause-any_moment
returns-in-Err-replace_all-clause-any_moment g c = λ bodies before after ready.
    record_then_files g.F.Folder.model g.D.Disk.model c.args.journal.now c.args.folder.now c.args.disk.now bodies before after c.args.body.now (changes_of c.args.files.now.items) ready c.append.new.disk
    (c.append.ensures.any_moment magic bodies ready.rest.open_on) g.met.F.Folder.counts_now c.append.new.self c.replace_all.new.folder
    (c.in_default.ensures.appended magic bodies ready.rest.open_on) (c.replace_all.ensures.any_moment ready.rest.tells ready.rest.stable)

pub returns-in-Err-replace_all-clause-refused : goal.returns-in-Err-replace_all-clause-refused
returns-in-Err-replace_all-clause-refused g c = (c.in-Err-replace_all.ensures.failed.1, λ bodies on. c.in_default.ensures.appended magic bodies on)

pub returns-clause-done : goal.returns-clause-done
returns-clause-done g c = λ bodies before after ready.
    rests_again g.F.Folder.model g.D.Disk.model c.args.journal.now c.args.folder.now c.args.disk.now bodies before after c.args.body.now (changes_of c.args.files.now.items) ready c.append.new.self c.replace_all.new.folder c.append.new.disk
    (c.in_default.ensures.appended magic bodies ready.rest.open_on) (c.replace_all.ensures.faults.tells ∙ ready.rest.tells) (c.in_default-replace_all.ensures.stable ready.rest.tells ready.rest.stable) (c.in_default-replace_all.ensures.done ready.rest.tells)

pub returns-clause-any_moment : goal.returns-clause-any_moment
returns-clause-any_moment g c = λ bodies before after ready.
    record_then_files g.F.Folder.model g.D.Disk.model c.args.journal.now c.args.folder.now c.args.disk.now bodies before after c.args.body.now (changes_of c.args.files.now.items) ready c.append.new.disk
    (c.append.ensures.any_moment magic bodies ready.rest.open_on) g.met.F.Folder.counts_now c.append.new.self c.replace_all.new.folder
    (c.in_default.ensures.appended magic bodies ready.rest.open_on) (c.replace_all.ensures.any_moment ready.rest.tells ready.rest.stable)

pub returns-in-Err-clause-growth : goal.returns-in-Err-clause-growth
returns-in-Err-clause-growth g c = λ bodies on.
    append_grows g.D.Disk.model g.met.D.Disk.only_now c.args.journal.now c.append.new.self c.args.disk.now c.append.new.disk (length c.args.body.now + 5) c.in-Err.error c.in-Err.ensures.refused (c.append.ensures.growth magic bodies on)

pub returns-in-Err-replace_all-clause-growth : goal.returns-in-Err-replace_all-clause-growth
returns-in-Err-replace_all-clause-growth g c = λ bodies on.
    grows_within g.D.Disk.model c.args.disk.now c.append.new.disk (length c.args.body.now + 5) (record_size c.args.body.now) (omega (arith, c.in_default.ensures.accepted.2)) (c.append.ensures.growth magic bodies on)

pub returns-clause-growth : goal.returns-clause-growth
returns-clause-growth g c = λ bodies on.
    grows_within g.D.Disk.model c.args.disk.now c.append.new.disk (length c.args.body.now + 5) (record_size c.args.body.now) (omega (arith, c.in_default.ensures.accepted.2)) (c.append.ensures.growth magic bodies on)
