use Rattle.std.proofs.Common.{inl, length, ◌+◌}
use Rattle.tw_world.proofs.Moments.{started}
use Rattle.tw_journal.specs.Journal.{RecordsOrMore}
use Rattle.tw_journal.specs.Record.{IsLongerBy}
use Rattle.tw_journal.proofs.Offsets.{left_records}
use Rattle.tw_replica.specs.Replica.{magic}
use Rattle.tw_state.proofs.MadeOnPart.{next_free, next_left}
use Rattle.tw_replica.proofs.keeping.record.write_record.Goals as goal

pub make_room-requires : goal.make_room-requires
make_room-requires g c = next_free c.args.tasks.now c.args.next.now c.requires.next

pub returns-in-Err-clause-any_moment : goal.returns-in-Err-clause-any_moment
returns-in-Err-clause-any_moment g c = λ bodies on. c.append.ensures.any_moment magic bodies on

pub returns-in-Err-clause-left : goal.returns-in-Err-clause-left
returns-in-Err-clause-left g c = next_left c.args.tasks.now c.args.next.now c.requires.next c.make_room.new.tasks c.in_ok-make_room.ensures.ok c.take_out.new.tasks c.take_out.ensures

pub returns-clause-journal : goal.returns-clause-journal
returns-clause-journal g c = λ bodies on. c.in_default.ensures.appended magic bodies on

pub returns-clause-any_moment : goal.returns-clause-any_moment
returns-clause-any_moment g c = λ bodies on. c.append.ensures.any_moment magic bodies on

pub returns-in-Err-clause-growth : goal.returns-in-Err-clause-growth
returns-in-Err-clause-growth g c = λ bodies on. c.append.ensures.growth magic bodies on

pub returns-clause-growth : goal.returns-clause-growth
returns-clause-growth g c = λ bodies on. c.append.ensures.growth magic bodies on

pub returns-in_err-make_room-clause-any_moment : goal.returns-in_err-make_room-clause-any_moment
returns-in_err-make_room-clause-any_moment g c = λ bodies on. started g.D.Disk.model g.met.D.Disk.only_now c.args.disk.now (RecordsOrMore magic bodies c.args.body.now) (λ f left. inl (left_records g.D.Disk.model magic c.args.journal.now c.args.disk.now bodies on f left))

pub returns-in_err-make_room-clause-growth : goal.returns-in_err-make_room-clause-growth
returns-in_err-make_room-clause-growth g c = λ bodies on. started g.D.Disk.model g.met.D.Disk.only_now c.args.disk.now (IsLongerBy g.D.Disk.model c.args.disk.now (length c.args.body.now + 5)) (λ f left. inl left)
