use Rattle.std.proofs.Common.{◌∙◌, inl}
use Rattle.tw_world.proofs.Moments.{started}
use Rattle.tw_journal.specs.Journal.{RecordsOrMore}
use Rattle.tw_journal.proofs.Offsets.{left_records}
use Rattle.tw_replica.specs.Replica.{magic}
use Rattle.tw_state.specs.Groups.{group_in}
use Rattle.tw_state.proofs.PendingBodies.{group_is}
use Rattle.tw_replica.proofs.keeping.commit.commit_record.Goals as goal

pub returns-in-Err-clause-refused : goal.returns-in-Err-clause-refused
returns-in-Err-clause-refused g c =
    let kept = c.write_next.ensures.pending ∙ c.in_ok-keep.ensures.ok in
    let pending = c.take_out_again.ensures c.args.core.now.pending (group_in c.args.kept.items) kept (group_is c.args.kept.items) c.requires.kept in
    let same = c.in-Err.ensures.refused.1 in
    (c.in-Err.ensures.refused.0, λ i. record { base = (same i).base; pending = pending i; tasks = (same i).tasks; numbers = (same i).numbers })

pub returns-in_err-keep-clause-any_moment : goal.returns-in_err-keep-clause-any_moment
returns-in_err-keep-clause-any_moment g c = λ bodies on.
    let m = g.D.Disk.model in
    started m g.met.D.Disk.only_now c.args.disk.now (RecordsOrMore magic bodies c.args.body.now) (λ f left. inl (left_records m magic c.args.journal.now c.args.disk.now bodies on f left))
