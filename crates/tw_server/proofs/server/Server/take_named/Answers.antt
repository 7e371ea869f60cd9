use Rattle.std.proofs.Common.{◌∙◌, ◌&&◌, sym, ap}
use Rattle.tw_records.specs.Bodies.{block_size, is_next_entry}
use Rattle.tw_records.specs.declared.walk.Source.TheVariants.{Named}
use Rattle.tw_records.specs.Table.{log_in, taken, is_block_body, entry_at}
use Rattle.tw_server.specs.Faults.{read_in_opening}
use Rattle.tw_server.specs.Opening.{IfDamaged, IsDamageBy, OnTable, TakeRefused}
use Rattle.tw_server.specs.Server.{magic}
use Rattle.tw_server.specs.Versions.{image_at}
use Rattle.tw_server.specs.declared.images.Images.{Images}
use Rattle.tw_server.proofs.Openings.{none_false, some_true, damage_after}
use Rattle.tw_server.proofs.Refusals.{from_fault}
use Rattle.tw_server.proofs.Tables.{tabled_knows}
use Rattle.tw_server.proofs.Results.{both_on_ok}
use Rattle.tw_server.proofs.Taken.{named_read, named_bad, read_no_damage, memory_no_damage}
use Rattle.tw_server.proofs.server.Server.take_named.Goals as goal

pub returns-in_err-show-clause-damaged : goal.returns-in_err-show-clause-damaged
returns-in_err-show-clause-damaged g c =
    let m = g.D.Disk.model in
    from_fault (λ e. OnTable m c.args.self.now c.args.reader.now c.args.disk.now (λ bodies table. IfDamaged e (IsDamageBy (m.seen c.args.disk.now) bodies (taken block_size bodies table (Named c.args.block c.args.place c.args.n)))))
    c.from_residual.result (read_in_opening c.in_err-show.field-0.0) c.from_residual.ensures.1
    (λ bodies on shown table known. read_no_damage m c.args.self.now.journal c.args.disk.now c.show.new.disk magic bodies c.in_err-show.field-0.0 _ c.in_err-show.ensures.refused on)

pub returns-in-Some-clause-taken : goal.returns-in-Some-clause-taken
returns-in-Some-clause-taken g c = both_on_ok c.take_version.result c.take_version.ensures.entries c.take_version.ensures.numbers (λ entries numbers bodies on shown table known.
    let body = c.as_slice.result.now in
    let is = c.as_slice.ensures.value ∙ c.in_ok-show.ensures.body magic bodies on shown in
    let e = entry_at c.args.place body in
    let got = some_true (is_block_body block_size body && is_next_entry (log_in table).versions e) e c.in-Some.entry (sym c.in-Some.is ∙ c.next_named.ensures.next (log_in table) (tabled_knows c.args.self.now table known)) in (
      named_read c.args.self.now c.take_version.new.self table known c.args.n c.in-Some.entry entries numbers (λ q. ap (λ (i : Images). image_at i q) c.take_version.ensures.images) bodies c.args.block c.args.place body is c.requires.place
          c.next_named.ensures.bytes got.0 got.1,
      c.in_ok-show.ensures.shown magic bodies on shown,
    ))

pub returns-in-Some-clause-refused : goal.returns-in-Some-clause-refused
returns-in-Some-clause-refused g c = memory_no_damage c.take_version.result (TakeRefused g.D.Disk.model c.args.disk.now c.show.new.disk) c.take_version.ensures.refused tt

pub returns-in-Some-clause-damaged : goal.returns-in-Some-clause-damaged
returns-in-Some-clause-damaged g c =
    let m = g.D.Disk.model in
    memory_no_damage c.take_version.result (λ e. OnTable m c.args.self.now c.args.reader.now c.args.disk.now (λ bodies table. IfDamaged e (IsDamageBy (m.seen c.args.disk.now) bodies (taken block_size bodies table (Named c.args.block c.args.place c.args.n)))))
    c.take_version.ensures.refused (λ bodies on shown table known. tt)

pub returns-in-None-clause-damaged : goal.returns-in-None-clause-damaged
returns-in-None-clause-damaged g c = λ bodies on shown table known.
    let m = g.D.Disk.model in
    let server = c.args.self.now in
    let body = c.as_slice.result.now in
    let is = c.as_slice.ensures.value ∙ c.in_ok-show.ensures.body magic bodies on shown in
    let e = entry_at c.args.place body in
    let none = none_false (is_block_body block_size body && is_next_entry (log_in table).versions e) e (sym c.in-None.is ∙ c.next_named.ensures.next (log_in table) (tabled_knows server table known)) in
    damage_after m server.journal c.args.disk.now c.show.new.disk bodies c.args.block c.damaged.result _ on c.in_ok-show.ensures.untouched c.requires.block c.damaged.ensures.at (named_bad table bodies c.args.n c.args.block c.args.place body is none)
