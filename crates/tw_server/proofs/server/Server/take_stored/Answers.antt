use Rattle.std.proofs.Common.{◌∙◌, sym, ap}
use Rattle.tw_records.specs.Bodies.{block_size, is_stored, image_of, snapshot_in}
use Rattle.tw_records.specs.declared.walk.Source.TheVariants.{Stored}
use Rattle.tw_records.specs.Table.{log_in, taken}
use Rattle.tw_server.specs.Faults.{read_in_opening}
use Rattle.tw_server.specs.Opening.{IfDamaged, IsDamageBy, OnTable, TakeRefused}
use Rattle.tw_server.specs.Server.{magic}
use Rattle.tw_server.specs.declared.versions.Versions.{Versions}
use Rattle.tw_server.proofs.Openings.{none_false, some_true, damage_after}
use Rattle.tw_server.proofs.Refusals.{from_fault}
use Rattle.tw_server.proofs.Tables.{tabled_knows}
use Rattle.tw_server.proofs.Results.{on_ok_weaker}
use Rattle.tw_server.proofs.Taken.{stored_read, stored_bad, read_no_damage, memory_no_damage}
use Rattle.tw_server.proofs.server.Server.take_stored.Goals as goal

pub returns-in_err-front-clause-damaged : goal.returns-in_err-front-clause-damaged
returns-in_err-front-clause-damaged g c =
    let m = g.D.Disk.model in
    from_fault (λ e. OnTable m c.args.self.now c.args.reader.now c.args.disk.now (λ bodies table. IfDamaged e (IsDamageBy (m.seen c.args.disk.now) bodies (taken block_size bodies table (Stored c.args.n)))))
    c.from_residual.result (read_in_opening c.in_err-front.field-0.0) c.from_residual.ensures.1
    (λ bodies on shown table known. read_no_damage m c.args.self.now.journal c.args.disk.now c.read_front.new.disk magic bodies c.in_err-front.field-0.0 _ c.in_err-front.ensures.refused on)

pub returns-in-Some-clause-taken : goal.returns-in-Some-clause-taken
returns-in-Some-clause-taken g c = on_ok_weaker c.take_image.result c.take_image.ensures.images (λ images bodies on shown table known.
    let front = c.as_slice.result.now in
    let is = c.as_slice.ensures.value ∙ c.in_ok-front.ensures.front magic bodies on in
    let got = some_true (is_stored (log_in table) front) (image_of (snapshot_in front)) c.in-Some.image (sym c.in-Some.is ∙ c.next_image.ensures (log_in table) (tabled_knows c.args.self.now table known) known.sound) in (
      stored_read c.args.self.now c.take_image.new.self table known c.args.n bodies front c.in-Some.image is got.0 got.1
          (ap (λ (v : Versions). v.entries.items) c.take_image.ensures.versions) (ap (λ (v : Versions). v.numbers.items) c.take_image.ensures.versions) images,
      shown,
    ))

pub returns-in-Some-clause-refused : goal.returns-in-Some-clause-refused
returns-in-Some-clause-refused g c = memory_no_damage c.take_image.result (TakeRefused g.D.Disk.model c.args.disk.now c.read_front.new.disk) c.take_image.ensures.refused tt

pub returns-in-Some-clause-damaged : goal.returns-in-Some-clause-damaged
returns-in-Some-clause-damaged g c =
    let m = g.D.Disk.model in
    memory_no_damage c.take_image.result (λ e. OnTable m c.args.self.now c.args.reader.now c.args.disk.now (λ bodies table. IfDamaged e (IsDamageBy (m.seen c.args.disk.now) bodies (taken block_size bodies table (Stored c.args.n)))))
    c.take_image.ensures.refused (λ bodies on shown table known. tt)

pub returns-clause-damaged : goal.returns-clause-damaged
returns-clause-damaged g c = λ bodies on shown table known.
    let m = g.D.Disk.model in
    let server = c.args.self.now in
    let front = c.as_slice.result.now in
    let is = c.as_slice.ensures.value ∙ c.in_ok-front.ensures.front magic bodies on in
    let none = none_false (is_stored (log_in table) front) (image_of (snapshot_in front)) (sym c.in-None.is ∙ c.next_image.ensures (log_in table) (tabled_knows server table known) known.sound) in
    damage_after m server.journal c.args.disk.now c.read_front.new.disk bodies c.args.n c.damaged.result _ on c.in_ok-front.ensures.untouched c.requires.inside c.damaged.ensures.at (stored_bad table bodies c.args.n front is none)
