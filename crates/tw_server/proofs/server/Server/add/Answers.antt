use Rattle.std.specs.Prelude.{slice_index, All}
use Rattle.std.proofs.Common.{◌+◌, ◌<◌, ◌≤◌, length, arith, ◌/◌, ◌≡◌, ◌∙◌, ◌++◌, ◌∷◌, [], List, ℕ, Err, refl, sym, ap, subst, true, false}
use Rattle.tw_protocol.specs.Answer.{version}
use Rattle.tw_http.specs.declared.message.Request.TheVariants.{Add}
use Rattle.tw_journal.specs.Journal.{IsOpenOn, RecordsOrMore, journal_count, is_closed}
use Rattle.tw_journal.proofs.Offsets.{same_open}
use Rattle.tw_world.specs.Disk.{LeavesOnly}
use Rattle.tw_records.specs.Log.{accepted_for}
use Rattle.tw_records.specs.Bodies.{body_of, entry_of}
use Rattle.tw_server.specs.Log.{log_after}
use Rattle.tw_server.specs.Server.{magic, drawn_id}
use Rattle.tw_server.specs.Versions.{image_at}
use Rattle.tw_server.specs.declared.images.Images.{Images}
use Rattle.tw_server.proofs.Disks.{first_moment, no_growth, growth_is, room_on, append_stays}
use Rattle.tw_server.proofs.Knowing.{kept_before}
use Rattle.tw_server.proofs.Counts.{numbers_moved, numbers_more, placed_moved, append_count}
use Rattle.tw_server.proofs.Refusals.{append_closes, is_err}
use Rattle.tw_server.proofs.Adds.{drawn_is, drawn_uuid, drawn_real, not_other, id_is_there, conflict_answer, taken_answer, version_on, added_answer, added_moments}
use Rattle.tw_server.proofs.MemoryReplies.{on_err}
use Rattle.tw_server.proofs.Remembered.{is_other, conflict_known, taken_known, knows_added, added_known}
use Rattle.tw_server.proofs.server.Server.add.Goals as goal

pub returns-then-ne-clause-answered : goal.returns-then-ne-clause-answered
returns-then-ne-clause-answered g c log on =
    conflict_answer g.D.Disk.model c.args.client c.args.parent c.args.segment.now c.args.self.now c.args.disk.now log c.args.ids.now c.latest-latest.result on (c.latest-latest.ensures log on.places.knows) (is_other _ c.if-ne.ensures)

pub returns-then-has_id-clause-answered : goal.returns-then-has_id-clause-answered
returns-then-has_id-clause-answered g c log on =
    let id_is = c.from_bytes-id.ensures ∙ c.next.ensures.id ∙ sym (drawn_is c.args.ids.now.start) in
    taken_answer g.D.Disk.model c.args.client c.args.parent c.args.segment.now c.args.self.now c.args.disk.now log c.args.ids.now c.next.new.self c.latest-latest.result on (c.latest-latest.ensures log on.places.knows) (not_other _ c.if-ne.ensures)
    (id_is_there c.args.client c.from_bytes-id.result c.args.ids.now.start log true id_is (c.if-has_id.ensures log on.places.knows)) c.next.ensures.start c.next.ensures.step

pub returns-clause-answered : goal.returns-clause-answered
returns-clause-answered g c log on =
    let m = g.D.Disk.model in
    let start = c.args.ids.now.start in
    let id_is = c.from_bytes-id.ensures ∙ c.next.ensures.id ∙ sym (drawn_is start) in
    let last = c.latest-latest.ensures log on.places.knows in
    let same = not_other _ c.if-ne.ensures in
    let fresh = id_is_there c.args.client c.from_bytes-id.result start log false id_is (c.if-has_id.ensures log on.places.knows) in
    let uuid = drawn_uuid start (subst (λ x. slice_index x 6 / 16 ≡ 4) c.next.ensures.id c.next.ensures.version) (subst (λ x. slice_index x 8 / 64 ≡ 2) c.next.ensures.id c.next.ensures.variant) in
    let real = drawn_real start (subst (λ x. slice_index x 6 / 16 ≡ 4) c.next.ensures.id c.next.ensures.version) in
    let body_is = c.as_slice.ensures.value ∙ c.in_ok-body.ensures.items ∙ ap (λ x. body_of (accepted_for c.args.client (version x c.args.parent c.args.segment.now))) id_is in
    let entries = c.push.ensures.entries ∙ (λ i. c.make_room.ensures.entries i ++ entry_of (accepted_for c.args.client (version (id_is i) c.args.parent c.args.segment.now)) ∷ []) in
    let images : (q : List ℕ) → image_at c.make_room.new.self.images q ≡ image_at c.args.self.now.images q = λ q. ap (λ (i : Images). image_at i q) c.make_room.ensures.images in
    let knows = knows_added c.args.client c.args.parent c.args.segment.now c.args.self.now _ log (drawn_id start) c.latest-latest.result on.places.knows last same fresh entries images in
    let wants = c.is_wanted-wanted.ensures (log_after log (Add c.args.client c.args.parent c.args.segment.now) (drawn_id start)) knows in
    let open_on = subst (λ b. IsOpenOn m magic c.append.new.self c.append.new.disk (on.bodies ++ b ∷ [])) body_is (c.in_ok-append.ensures.appended magic on.bodies (same_open m magic _ _ _ _ c.make_room.ensures.same on.journal)) in
    let at = c.count-number.ensures ∙ c.make_room.ensures.same.count ∙ on.journal.count in
    let kept = kept_before c.args.self.now on.bodies (body_of (accepted_for c.args.client (version (drawn_id start) c.args.parent c.args.segment.now)))
    (subst (λ k. All (λ n. n < k) c.args.self.now.versions.numbers.items) on.journal.count (c.args.self.now.counted c.requires.open))
    (λ client p stored. subst (λ k. p.number < k) on.journal.count (c.args.self.now.placed c.requires.open client p stored)) in
    let numbers = c.push.ensures.numbers ∙ ap (λ ns. ns ++ c.count-number.result ∷ []) c.make_room.ensures.numbers in
    added_answer m c.args.client c.args.parent c.args.segment.now _ c.append.new.disk log c.args.ids.now c.next.new.self c.from_bytes-id.result c.latest-latest.result c.is_wanted-wanted.result id_is last same fresh
    c.next.ensures.start c.next.ensures.step wants
    (version_on m c.args.client c.args.parent c.args.segment.now c.args.self.now _ c.args.disk.now c.append.new.disk log (drawn_id start) c.latest-latest.result c.count-number.result on c.in_ok-body.ensures.client uuid real last same fresh open_on at kept entries numbers images)

pub returns-clause-any_moment : goal.returns-clause-any_moment
returns-clause-any_moment g c log on =
    let m = g.D.Disk.model in
    let start = c.args.ids.now.start in
    let id_is = c.from_bytes-id.ensures ∙ c.next.ensures.id ∙ sym (drawn_is start) in
    let last = c.latest-latest.ensures log on.places.knows in
    let same = not_other _ c.if-ne.ensures in
    let fresh = id_is_there c.args.client c.from_bytes-id.result start log false id_is (c.if-has_id.ensures log on.places.knows) in
    let uuid = drawn_uuid start (subst (λ x. slice_index x 6 / 16 ≡ 4) c.next.ensures.id c.next.ensures.version) (subst (λ x. slice_index x 8 / 64 ≡ 2) c.next.ensures.id c.next.ensures.variant) in
    let real = drawn_real start (subst (λ x. slice_index x 6 / 16 ≡ 4) c.next.ensures.id c.next.ensures.version) in
    let body_is = c.as_slice.ensures.value ∙ c.in_ok-body.ensures.items ∙ ap (λ x. body_of (accepted_for c.args.client (version x c.args.parent c.args.segment.now))) id_is in
    let run = subst (λ b. LeavesOnly m c.args.disk.now c.append.new.disk (RecordsOrMore magic on.bodies b)) body_is (c.in_ok-append.ensures.any_moment magic on.bodies (same_open m magic _ _ _ _ c.make_room.ensures.same on.journal)) in
    added_moments m c.args.client c.args.parent c.args.segment.now c.args.disk.now c.append.new.disk c.args.self.now log (drawn_id start) c.latest-latest.result on c.in_ok-body.ensures.client uuid real last same fresh run

pub returns-in_err-append-clause-any_moment : goal.returns-in_err-append-clause-any_moment
returns-in_err-append-clause-any_moment g c log on =
    let m = g.D.Disk.model in
    let start = c.args.ids.now.start in
    let id_is = c.from_bytes-id.ensures ∙ c.next.ensures.id ∙ sym (drawn_is start) in
    let last = c.latest-latest.ensures log on.places.knows in
    let same = not_other _ c.if-ne.ensures in
    let fresh = id_is_there c.args.client c.from_bytes-id.result start log false id_is (c.if-has_id.ensures log on.places.knows) in
    let uuid = drawn_uuid start (subst (λ x. slice_index x 6 / 16 ≡ 4) c.next.ensures.id c.next.ensures.version) (subst (λ x. slice_index x 8 / 64 ≡ 2) c.next.ensures.id c.next.ensures.variant) in
    let real = drawn_real start (subst (λ x. slice_index x 6 / 16 ≡ 4) c.next.ensures.id c.next.ensures.version) in
    let body_is = c.as_slice.ensures.value ∙ c.in_ok-body.ensures.items ∙ ap (λ x. body_of (accepted_for c.args.client (version x c.args.parent c.args.segment.now))) id_is in
    let run = subst (λ b. LeavesOnly m c.args.disk.now c.append.new.disk (RecordsOrMore magic on.bodies b)) body_is (c.in_err-append.ensures.any_moment magic on.bodies (same_open m magic _ _ _ _ c.make_room.ensures.same on.journal)) in
    added_moments m c.args.client c.args.parent c.args.segment.now c.args.disk.now c.append.new.disk c.args.self.now log (drawn_id start) c.latest-latest.result on c.in_ok-body.ensures.client uuid real last same fresh run

pub returns-in_err-make_room-clause-any_moment : goal.returns-in_err-make_room-clause-any_moment
returns-in_err-make_room-clause-any_moment g c log on = first_moment g.D.Disk.model c.args.self.now c.args.disk.now log _ g.met.D.Disk.only_now on

pub returns-then-ne-clause-any_moment : goal.returns-then-ne-clause-any_moment
returns-then-ne-clause-any_moment g c log on = first_moment g.D.Disk.model c.args.self.now c.args.disk.now log _ g.met.D.Disk.only_now on

pub returns-then-has_id-clause-any_moment : goal.returns-then-has_id-clause-any_moment
returns-then-has_id-clause-any_moment g c log on = first_moment g.D.Disk.model c.args.self.now c.args.disk.now log _ g.met.D.Disk.only_now on

pub returns-in_err-body-clause-any_moment : goal.returns-in_err-body-clause-any_moment
returns-in_err-body-clause-any_moment g c log on = first_moment g.D.Disk.model c.args.self.now c.args.disk.now log _ g.met.D.Disk.only_now on

pub returns-in_err-make_room-clause-growth : goal.returns-in_err-make_room-clause-growth
returns-in_err-make_room-clause-growth g c log on = no_growth g.D.Disk.model c.args.disk.now (length c.args.segment.now + 54) g.met.D.Disk.only_now

pub returns-then-ne-clause-growth : goal.returns-then-ne-clause-growth
returns-then-ne-clause-growth g c log on = no_growth g.D.Disk.model c.args.disk.now (length c.args.segment.now + 54) g.met.D.Disk.only_now

pub returns-then-has_id-clause-growth : goal.returns-then-has_id-clause-growth
returns-then-has_id-clause-growth g c log on = no_growth g.D.Disk.model c.args.disk.now (length c.args.segment.now + 54) g.met.D.Disk.only_now

pub returns-in_err-body-clause-growth : goal.returns-in_err-body-clause-growth
returns-in_err-body-clause-growth g c log on = no_growth g.D.Disk.model c.args.disk.now (length c.args.segment.now + 54) g.met.D.Disk.only_now

pub returns-in_err-append-clause-growth : goal.returns-in_err-append-clause-growth
returns-in_err-append-clause-growth g c log on =
    let long = ap length c.as_slice.ensures.value ∙ c.in_ok-body.ensures.long in
    growth_is g.D.Disk.model c.args.disk.now c.append.new.disk (length c.as_slice.result.now + 5) (length c.args.segment.now + 54) (omega (arith, long)) (c.in_err-append.ensures.growth magic on.bodies (same_open g.D.Disk.model magic _ _ _ _ c.make_room.ensures.same on.journal))

pub returns-clause-growth : goal.returns-clause-growth
returns-clause-growth g c log on =
    let long = ap length c.as_slice.ensures.value ∙ c.in_ok-body.ensures.long in
    growth_is g.D.Disk.model c.args.disk.now c.append.new.disk (length c.as_slice.result.now + 5) (length c.args.segment.now + 54) (omega (arith, long)) (c.in_ok-append.ensures.growth magic on.bodies (same_open g.D.Disk.model magic _ _ _ _ c.make_room.ensures.same on.journal))

pub returns-in_err-append-clause-closes : goal.returns-in_err-append-clause-closes
returns-in_err-append-clause-closes g c closed =
    is_err c.from_residual-in_err-append.result _ c.from_residual-in_err-append.ensures.1
    ∙ ap (λ e. Err e) (append_closes g.D.Disk.model c.make_room.new.self.journal c.append.new.self c.args.disk.now c.append.new.disk _ c.in_err-append.field-0.0 c.in_err-append.ensures.refused (c.make_room.ensures.same.closed ∙ c.requires.open) closed)

pub returns-then-ne-clause-remembered : goal.returns-then-ne-clause-remembered
returns-then-ne-clause-remembered g c = record {
  answer = λ log known sound. conflict_known c.args.client c.args.parent c.args.segment.now c.args.self.now log c.args.ids.now c.latest-latest.result known (c.latest-latest.ensures log known) (is_other _ c.if-ne.ensures);
  bytes = tt;
}

pub returns-then-has_id-clause-remembered : goal.returns-then-has_id-clause-remembered
returns-then-has_id-clause-remembered g c = record {
  answer = λ log known sound.
      let id_is = c.from_bytes-id.ensures ∙ c.next.ensures.id ∙ sym (drawn_is c.args.ids.now.start) in
      taken_known c.args.client c.args.parent c.args.segment.now c.args.self.now log c.args.ids.now c.next.new.self c.latest-latest.result known (c.latest-latest.ensures log known) (not_other _ c.if-ne.ensures)
      (id_is_there c.args.client c.from_bytes-id.result c.args.ids.now.start log true id_is (c.if-has_id.ensures log known)) c.next.ensures.start c.next.ensures.step;
  bytes = tt;
}

pub returns-clause-remembered : goal.returns-clause-remembered
returns-clause-remembered g c = record {
  answer = λ log known sound.
      let start = c.args.ids.now.start in
      let id_is = c.from_bytes-id.ensures ∙ c.next.ensures.id ∙ sym (drawn_is start) in
      let last = c.latest-latest.ensures log known in
      let same = not_other _ c.if-ne.ensures in
      let fresh = id_is_there c.args.client c.from_bytes-id.result start log false id_is (c.if-has_id.ensures log known) in
      let entries = c.push.ensures.entries ∙ (λ i. c.make_room.ensures.entries i ++ entry_of (accepted_for c.args.client (version (id_is i) c.args.parent c.args.segment.now)) ∷ []) in
      let images : (q : List ℕ) → image_at c.make_room.new.self.images q ≡ image_at c.args.self.now.images q = λ q. ap (λ (i : Images). image_at i q) c.make_room.ensures.images in
      let knows = knows_added c.args.client c.args.parent c.args.segment.now c.args.self.now _ log (drawn_id start) c.latest-latest.result known last same fresh entries images in
      let wants = c.is_wanted-wanted.ensures (log_after log (Add c.args.client c.args.parent c.args.segment.now) (drawn_id start)) knows in
      added_known c.args.client c.args.parent c.args.segment.now _ log c.args.ids.now c.next.new.self c.from_bytes-id.result c.latest-latest.result c.is_wanted-wanted.result id_is last same fresh c.next.ensures.start c.next.ensures.step knows wants;
  bytes = tt;
}

pub returns-in_err-append-clause-stays : goal.returns-in_err-append-clause-stays
returns-in_err-append-clause-stays g c = on_err c.from_residual-in_err-append.result _ (λ log on open_now.
    append_stays g.D.Disk.model c.args.self.now _ c.args.disk.now log on c.make_room.ensures.entries c.make_room.ensures.numbers (λ q. ap (λ (i : Images). image_at i q) c.make_room.ensures.images)
    c.make_room.new.self.journal c.append.new.disk _ c.in_err-append.field-0.0 c.make_room.ensures.same c.in_err-append.ensures.refused open_now)

pub returns-in_err-make_room-clause-stays : goal.returns-in_err-make_room-clause-stays
returns-in_err-make_room-clause-stays g c = on_err c.from_residual-in_err-make_room.result _ (λ log on open_now.
    room_on g.D.Disk.model c.args.self.now _ c.args.disk.now log on c.make_room.ensures.entries c.make_room.ensures.numbers (λ q. ap (λ (i : Images). image_at i q) c.make_room.ensures.images) c.make_room.ensures.same)

pub invariant_of-self : goal.invariant_of-self
invariant_of-self g c =
    let mid = c.make_room.new.self in
    let was = c.make_room.ensures.same.closed ∙ c.requires.open in
    let k = journal_count mid.journal in
    let l = journal_count c.append.new.self in
    let more : is_closed c.append.new.self ≡ false → k ≤ l = λ open_now. append_count g.D.Disk.model mid.journal c.append.new.self c.args.disk.now c.append.new.disk (length c.as_slice.result.now + 5) c.append.result c.append.ensures.accepted c.append.ensures.refused was open_now in
    record {
      counted = λ open_now. numbers_moved mid.versions.numbers.items mid.versions.numbers.items k l refl (more open_now) (mid.counted was);
      placed = λ open_now. placed_moved mid.images mid.images k l (λ q. refl) (more open_now) (mid.placed was);
    }

pub invariant_of-self-2 : goal.invariant_of-self-2
invariant_of-self-2 g c =
    let mid = c.make_room.new.self in
    let was = c.make_room.ensures.same.closed ∙ c.requires.open in
    let k = journal_count mid.journal in
    let l = journal_count c.append.new.self in
    let one = c.in_ok-append.ensures.accepted.3 in
    let number = c.count-number.ensures in
    record {
      counted = λ open_now. numbers_more mid.versions.numbers.items c.push.new.self.numbers.items c.count-number.result k l c.push.ensures.numbers (omega (arith, one)) (omega (arith, one, number)) (mid.counted was);
      placed = λ open_now. placed_moved mid.images mid.images k l (λ q. refl) (omega (arith, one)) (mid.placed was);
    }
