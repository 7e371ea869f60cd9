use Rattle.std.specs.Prelude.{All}
use Rattle.std.specs.Ordering.{is_eq}
use Rattle.std.proofs.Common.{◌+◌, ◌<◌, ◌≤◌, length, arith, ◌≡◌, ◌∙◌, ◌++◌, ◌∷◌, [], cond, Some, Err, refl, sym, ap, subst, false}
use Rattle.tw_journal.specs.Journal.{IsOpenOn, RecordsOrMore, journal_count, is_closed}
use Rattle.tw_journal.proofs.Offsets.{same_open}
use Rattle.tw_world.specs.Disk.{LeavesOnly}
use Rattle.tw_records.specs.Bodies.{snapshot_body}
use Rattle.tw_server.specs.Server.{magic}
use Rattle.tw_server.specs.Versions.{uuid_cmp}
use Rattle.tw_server.specs.declared.versions.Versions.{Versions}
use Rattle.tw_server.proofs.Disks.{first_moment, no_growth, growth_is, room_on, append_stays}
use Rattle.tw_server.proofs.Knowing.{kept_before}
use Rattle.tw_server.proofs.Counts.{numbers_moved, placed_moved, placed_more, append_count}
use Rattle.tw_server.proofs.Refusals.{append_closes, is_err}
use Rattle.tw_server.proofs.AddSnapshots.{bad_answer, store_answer, stored_moments, snapshot}
use Rattle.tw_server.proofs.MemoryReplies.{on_err}
use Rattle.tw_server.proofs.Remembered.{bad_known, stored_known}
use Rattle.tw_server.proofs.server.Server.store.Goals as goal

pub returns-then-not-is_welcome-clause-answered : goal.returns-then-not-is_welcome-clause-answered
returns-then-not-is_welcome-clause-answered g c = λ ids log on.
    bad_answer g.D.Disk.model c.args.client c.args.version c.args.bytes.now c.args.self.now c.args.disk.now log ids on (sym (c.is_welcome.ensures log on.places.knows on.places.sound) ∙ c.if-not-is_welcome.true)

pub returns-clause-answered : goal.returns-clause-answered
returns-clause-answered g c = λ ids log on.
    let m = g.D.Disk.model in
    let welcome = sym (c.is_welcome.ensures log on.places.knows on.places.sound) ∙ c.if-not-is_welcome.false in
    let body_is = c.as_slice.ensures.value ∙ c.in_ok-body.ensures.items in
    let open_on = subst (λ b. IsOpenOn m magic c.append.new.self c.append.new.disk (on.bodies ++ b ∷ [])) body_is (c.in_ok-append.ensures.appended magic on.bodies (same_open m magic _ _ _ _ c.make_image_room.ensures.same on.journal)) in
    let at = c.count-number.ensures ∙ c.make_image_room.ensures.same.count ∙ on.journal.count in
    let kept = kept_before c.args.self.now on.bodies (snapshot_body (snapshot c.args.client c.args.version c.args.bytes.now log))
    (subst (λ k. All (λ n. n < k) c.args.self.now.versions.numbers.items) on.journal.count (c.args.self.now.counted c.requires.open))
    (λ client p stored. subst (λ k. p.number < k) on.journal.count (c.args.self.now.placed c.requires.open client p stored)) in
    store_answer m c.args.client c.args.version c.args.bytes.now c.args.self.now _ c.args.disk.now c.append.new.disk log ids c.count-number.result on welcome open_on at kept
    (ap (λ (v : Versions). v.entries.items) c.make_image_room.ensures.versions) (ap (λ (v : Versions). v.numbers.items) c.make_image_room.ensures.versions)
    (λ q. c.put.ensures q ∙ ap (λ o. cond (is_eq (uuid_cmp c.args.client q)) (Some (record { version = c.args.version; number = c.count-number.result })) o) (c.make_image_room.ensures.images q))

pub returns-then-not-is_welcome-clause-remembered : goal.returns-then-not-is_welcome-clause-remembered
returns-then-not-is_welcome-clause-remembered g c = λ ids. record {
  answer = λ log known sound. bad_known c.args.client c.args.version c.args.bytes.now log ids c.args.self.now known (sym (c.is_welcome.ensures log known sound) ∙ c.if-not-is_welcome.true);
  bytes = tt;
}

pub returns-clause-remembered : goal.returns-clause-remembered
returns-clause-remembered g c = λ ids. record {
  answer = λ log known sound.
      stored_known c.args.client c.args.version c.args.bytes.now log ids c.args.self.now _ c.count-number.result known (sym (c.is_welcome.ensures log known sound) ∙ c.if-not-is_welcome.false)
      (ap (λ (v : Versions). v.entries.items) c.make_image_room.ensures.versions)
      (λ q. c.put.ensures q ∙ ap (λ o. cond (is_eq (uuid_cmp c.args.client q)) (Some (record { version = c.args.version; number = c.count-number.result })) o) (c.make_image_room.ensures.images q));
  bytes = tt;
}

pub returns-clause-any_moment : goal.returns-clause-any_moment
returns-clause-any_moment g c = λ id log on.
    let m = g.D.Disk.model in
    let welcome = sym (c.is_welcome.ensures log on.places.knows on.places.sound) ∙ c.if-not-is_welcome.false in
    let run = subst (λ b. LeavesOnly m c.args.disk.now c.append.new.disk (RecordsOrMore magic on.bodies b)) (c.as_slice.ensures.value ∙ c.in_ok-body.ensures.items)
    (c.in_ok-append.ensures.any_moment magic on.bodies (same_open m magic _ _ _ _ c.make_image_room.ensures.same on.journal)) in
    stored_moments m c.args.client c.args.version c.args.bytes.now c.args.self.now c.args.disk.now c.append.new.disk log id on welcome run

pub returns-in_err-append-clause-any_moment : goal.returns-in_err-append-clause-any_moment
returns-in_err-append-clause-any_moment g c = λ id log on.
    let m = g.D.Disk.model in
    let welcome = sym (c.is_welcome.ensures log on.places.knows on.places.sound) ∙ c.if-not-is_welcome.false in
    let run = subst (λ b. LeavesOnly m c.args.disk.now c.append.new.disk (RecordsOrMore magic on.bodies b)) (c.as_slice.ensures.value ∙ c.in_ok-body.ensures.items)
    (c.in_err-append.ensures.any_moment magic on.bodies (same_open m magic _ _ _ _ c.make_image_room.ensures.same on.journal)) in
    stored_moments m c.args.client c.args.version c.args.bytes.now c.args.self.now c.args.disk.now c.append.new.disk log id on welcome run

pub returns-in_err-make_image_room-clause-any_moment : goal.returns-in_err-make_image_room-clause-any_moment
returns-in_err-make_image_room-clause-any_moment g c = λ id log on. first_moment g.D.Disk.model c.args.self.now c.args.disk.now log _ g.met.D.Disk.only_now on

pub returns-then-not-is_welcome-clause-any_moment : goal.returns-then-not-is_welcome-clause-any_moment
returns-then-not-is_welcome-clause-any_moment g c = λ id log on. first_moment g.D.Disk.model c.args.self.now c.args.disk.now log _ g.met.D.Disk.only_now on

pub returns-in_err-body-clause-any_moment : goal.returns-in_err-body-clause-any_moment
returns-in_err-body-clause-any_moment g c = λ id log on. first_moment g.D.Disk.model c.args.self.now c.args.disk.now log _ g.met.D.Disk.only_now on

pub returns-in_err-make_image_room-clause-growth : goal.returns-in_err-make_image_room-clause-growth
returns-in_err-make_image_room-clause-growth g c log on = no_growth g.D.Disk.model c.args.disk.now (length c.args.bytes.now + 38) g.met.D.Disk.only_now

pub returns-then-not-is_welcome-clause-growth : goal.returns-then-not-is_welcome-clause-growth
returns-then-not-is_welcome-clause-growth g c log on = no_growth g.D.Disk.model c.args.disk.now (length c.args.bytes.now + 38) g.met.D.Disk.only_now

pub returns-in_err-body-clause-growth : goal.returns-in_err-body-clause-growth
returns-in_err-body-clause-growth g c log on = no_growth g.D.Disk.model c.args.disk.now (length c.args.bytes.now + 38) g.met.D.Disk.only_now

pub returns-in_err-append-clause-growth : goal.returns-in_err-append-clause-growth
returns-in_err-append-clause-growth g c log on =
    let long = ap length c.as_slice.ensures.value ∙ c.in_ok-body.ensures.long in
    growth_is g.D.Disk.model c.args.disk.now c.append.new.disk (length c.as_slice.result.now + 5) (length c.args.bytes.now + 38) (omega (arith, long)) (c.in_err-append.ensures.growth magic on.bodies (same_open g.D.Disk.model magic _ _ _ _ c.make_image_room.ensures.same on.journal))

pub returns-clause-growth : goal.returns-clause-growth
returns-clause-growth g c log on =
    let long = ap length c.as_slice.ensures.value ∙ c.in_ok-body.ensures.long in
    growth_is g.D.Disk.model c.args.disk.now c.append.new.disk (length c.as_slice.result.now + 5) (length c.args.bytes.now + 38) (omega (arith, long)) (c.in_ok-append.ensures.growth magic on.bodies (same_open g.D.Disk.model magic _ _ _ _ c.make_image_room.ensures.same on.journal))

pub returns-in_err-append-clause-closes : goal.returns-in_err-append-clause-closes
returns-in_err-append-clause-closes g c closed =
    is_err c.from_residual-in_err-append.result _ c.from_residual-in_err-append.ensures.1
    ∙ ap (λ e. Err e) (append_closes g.D.Disk.model c.make_image_room.new.self.journal c.append.new.self c.args.disk.now c.append.new.disk _ c.in_err-append.field-0.0 c.in_err-append.ensures.refused (c.make_image_room.ensures.same.closed ∙ c.requires.open) closed)

pub returns-in_err-append-clause-stays : goal.returns-in_err-append-clause-stays
returns-in_err-append-clause-stays g c = on_err c.from_residual-in_err-append.result _ (λ log on open_now.
    append_stays g.D.Disk.model c.args.self.now _ c.args.disk.now log on (ap (λ (v : Versions). v.entries.items) c.make_image_room.ensures.versions) (ap (λ (v : Versions). v.numbers.items) c.make_image_room.ensures.versions) c.make_image_room.ensures.images
    c.make_image_room.new.self.journal c.append.new.disk _ c.in_err-append.field-0.0 c.make_image_room.ensures.same c.in_err-append.ensures.refused open_now)

pub returns-in_err-make_image_room-clause-stays : goal.returns-in_err-make_image_room-clause-stays
returns-in_err-make_image_room-clause-stays g c = on_err c.from_residual-in_err-make_image_room.result _ (λ log on open_now.
    room_on g.D.Disk.model c.args.self.now _ c.args.disk.now log on (ap (λ (v : Versions). v.entries.items) c.make_image_room.ensures.versions) (ap (λ (v : Versions). v.numbers.items) c.make_image_room.ensures.versions) c.make_image_room.ensures.images c.make_image_room.ensures.same)

pub invariant_of-self : goal.invariant_of-self
invariant_of-self g c =
    let mid = c.make_image_room.new.self in
    let was = c.make_image_room.ensures.same.closed ∙ c.requires.open in
    let k = journal_count mid.journal in
    let l = journal_count c.append.new.self in
    let more : is_closed c.append.new.self ≡ false → k ≤ l = λ open_now. append_count g.D.Disk.model mid.journal c.append.new.self c.args.disk.now c.append.new.disk (length c.as_slice.result.now + 5) c.append.result c.append.ensures.accepted c.append.ensures.refused was open_now in
    record {
      counted = λ open_now. numbers_moved mid.versions.numbers.items mid.versions.numbers.items k l refl (more open_now) (mid.counted was);
      placed = λ open_now. placed_moved mid.images mid.images k l (λ q. refl) (more open_now) (mid.placed was);
    }

pub invariant_of-self-2 : goal.invariant_of-self-2
invariant_of-self-2 g c =
    let mid = c.make_image_room.new.self in
    let was = c.make_image_room.ensures.same.closed ∙ c.requires.open in
    let k = journal_count mid.journal in
    let l = journal_count c.append.new.self in
    let one = c.in_ok-append.ensures.accepted.3 in
    let number = c.count-number.ensures in
    record {
      counted = λ open_now. numbers_moved mid.versions.numbers.items mid.versions.numbers.items k l refl (omega (arith, one)) (mid.counted was);
      placed = λ open_now. placed_more mid.images c.put.new.self c.args.client c.args.version c.count-number.result k l c.put.ensures (omega (arith, one, number)) (omega (arith, one)) (mid.placed was);
    }
