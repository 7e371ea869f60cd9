use Rattle.std.proofs.Common.{◌∙◌, sym, ap}
use Rattle.tw_records.specs.Bodies.{block_size, follows, entry_of, accepted_in}
use Rattle.tw_records.specs.declared.walk.Source.TheVariants.{Own}
use Rattle.tw_records.specs.Table.{log_in, taken}
use Rattle.tw_server.specs.Faults.{read_in_opening}
use Rattle.tw_server.specs.Opening.{IfDamaged, IsDamageBy, OnTable, TakeRefused}
use Rattle.tw_server.specs.Server.{magic}
use Rattle.tw_server.specs.Versions.{image_at}
use Rattle.tw_server.specs.declared.images.Images.{Images}
use Rattle.tw_server.proofs.Openings.{none_false, some_true, damage_after}
use Rattle.tw_server.proofs.Refusals.{from_fault}
use Rattle.tw_server.proofs.Tables.{tabled_knows}
use Rattle.tw_server.proofs.Results.{both_on_ok}
use Rattle.tw_server.proofs.Taken.{own_read, own_bad, read_no_damage, memory_no_damage}
use Rattle.tw_server.proofs.server.Server.take_own.Goals as goal

pub returns-in_err-front-clause-damaged : goal.returns-in_err-front-clause-damaged
returns-in_err-front-clause-damaged g c =
    let m = g.D.Disk.model in
    from_fault (λ e. OnTable m c.args.self.now c.args.reader.now c.args.disk.now (λ bodies table. IfDamaged e (IsDamageBy (m.seen c.args.disk.now) bodies (taken block_size bodies table (Own c.args.n)))))
    c.from_residual.result (read_in_opening c.in_err-front.field-0.0) c.from_residual.ensures.1
    (λ bodies on shown table known. read_no_damage m c.args.self.now.journal c.args.disk.now c.read_front.new.disk magic bodies c.in_err-front.field-0.0 _ c.in_err-front.ensures.refused on)

pub returns-in-Some-clause-taken : goal.returns-in-Some-clause-taken
returns-in-Some-clause-taken g c = both_on_ok c.take_version.result c.take_version.ensures.entries c.take_version.ensures.numbers (λ entries numbers bodies on shown table known.
    let front = c.as_slice.result.now in
    let is = c.as_slice.ensures.value ∙ c.in_ok-front.ensures.front magic bodies on in
    let got = some_true (follows (log_in table).versions front) (entry_of (accepted_in front)) c.in-Some.entry (sym c.in-Some.is ∙ c.next_entry.ensures.next (log_in table) (tabled_knows c.args.self.now table known)) in (
      own_read c.args.self.now c.take_version.new.self table known c.args.n c.in-Some.entry entries numbers (λ q. ap (λ (i : Images). image_at i q) c.take_version.ensures.images) bodies front is c.next_entry.ensures.bytes got.0 got.1,
      shown,
    ))

pub returns-in-Some-clause-refused : goal.returns-in-Some-clause-refused
returns-in-Some-clause-refused g c = memory_no_damage c.take_version.result (TakeRefused g.D.Disk.model c.args.disk.now c.read_front.new.disk) c.take_version.ensures.refused tt

pub returns-in-Some-clause-damaged : goal.returns-in-Some-clause-damaged
returns-in-Some-clause-damaged g c =
    let m = g.D.Disk.model in
    memory_no_damage c.take_version.result (λ e. OnTable m c.args.self.now c.args.reader.now c.args.disk.now (λ bodies table. IfDamaged e (IsDamageBy (m.seen c.args.disk.now) bodies (taken block_size bodies table (Own c.args.n)))))
    c.take_version.ensures.refused (λ bodies on shown table known. tt)

pub returns-clause-damaged : goal.returns-clause-damaged
returns-clause-damaged g c = λ bodies on shown table known.
    let m = g.D.Disk.model in
    let server = c.args.self.now in
    let front = c.as_slice.result.now in
    let is = c.as_slice.ensures.value ∙ c.in_ok-front.ensures.front magic bodies on in
    let none = none_false (follows (log_in table).versions front) (entry_of (accepted_in front)) (sym c.in-None.is ∙ c.next_entry.ensures.next (log_in table) (tabled_knows server table known)) in
    damage_after m server.journal c.args.disk.now c.read_front.new.disk bodies c.args.n c.damaged.result _ on c.in_ok-front.ensures.untouched c.requires.inside c.damaged.ensures.at (own_bad table bodies c.args.n front is none)
