use Rattle.std.proofs.Common.{◌≡◌, ◌∙◌, ◌⊎◌, ◌+◌, ◌≤◌, false, length, drop, refl, sym, ap, subst, arith}
use Rattle.std.proofs.lemmas.List.{take_rest}
use Rattle.tw_world.specs.Disk.{LeavesOnly}
use Rattle.tw_journal.specs.Journal.{IsOpenOn, journal_count, is_closed}
use Rattle.tw_journal.specs.Open.{Records}
use Rattle.tw_journal.proofs.Offsets.{same_open}
use Rattle.tw_records.specs.Bodies.{block_size, block_of, last_of}
use Rattle.tw_server.proofs.Counts.{numbers_moved, placed_moved, append_count}
use Rattle.tw_server.proofs.Results.{on_ok_there}
use Rattle.tw_server.proofs.Openings.{records_stay, with_block}
use Rattle.tw_server.proofs.server.Server.add_block.Goals as goal

pub returns-then-fresh-lt256-clause-any_moment : goal.returns-then-fresh-lt256-clause-any_moment
returns-then-fresh-lt256-clause-any_moment g c = λ magic bodies on. records_stay g.D.Disk.model c.args.self.now.journal c.args.disk.now magic bodies _ g.met.D.Disk.only_now on

pub returns-in_err-block-clause-any_moment : goal.returns-in_err-block-clause-any_moment
returns-in_err-block-clause-any_moment g c = λ magic bodies on. records_stay g.D.Disk.model c.args.self.now.journal c.args.disk.now magic bodies _ g.met.D.Disk.only_now on

pub returns-in_err-make_room-clause-any_moment : goal.returns-in_err-make_room-clause-any_moment
returns-in_err-make_room-clause-any_moment g c = λ magic bodies on. records_stay g.D.Disk.model c.args.self.now.journal c.args.disk.now magic bodies _ g.met.D.Disk.only_now on

pub invariant_of-self : goal.invariant_of-self
invariant_of-self g c =
    let old = c.args.self.now in
    let same = c.make_room.ensures.same in
    let ns = old.versions.numbers.items in
    let count = same.count in
    record {
      counted = λ open_now. numbers_moved ns ns (journal_count old.journal) (journal_count c.make_room.new.self) refl (omega (arith, count)) (old.counted (sym same.closed ∙ open_now));
      placed = λ open_now. placed_moved old.images old.images (journal_count old.journal) (journal_count c.make_room.new.self) (λ q. refl) (omega (arith, count)) (old.placed (sym same.closed ∙ open_now));
    }

pub invariant_of-self-2 : goal.invariant_of-self-2
invariant_of-self-2 g c =
    let old = c.args.self.now in
    let same = c.make_room.ensures.same in
    let ns = old.versions.numbers.items in
    let k = journal_count old.journal in
    let l = journal_count c.append.new.self in
    let more : is_closed c.append.new.self ≡ false → k ≤ l =
    λ open_now.
    let a = append_count g.D.Disk.model c.make_room.new.self c.append.new.self c.args.disk.now c.append.new.disk (length c.as_slice.result.now + 5) c.append.result c.append.ensures.accepted c.append.ensures.refused (same.closed ∙ c.requires.open) open_now in
    let b = same.count in
    omega (arith, a, b) in
    record {
      counted = λ open_now. numbers_moved ns ns k l refl (more open_now) (old.counted c.requires.open);
      placed = λ open_now. placed_moved old.images old.images k l (λ q. refl) (more open_now) (old.placed c.requires.open);
    }

pub returns-then-is_err-clause-any_moment : goal.returns-then-is_err-clause-any_moment
returns-then-is_err-clause-any_moment g c = λ magic bodies on.
    let m = g.D.Disk.model in
    let entries = c.args.self.now.versions.entries.items in
    let known = c.as_slice-entries.result.now in
    let last = take_rest known c.saturating_sub.result ∙ ap (λ k. drop k known) c.saturating_sub.ensures ∙ ap (last_of block_size) c.as_slice-entries.ensures.value in
    let block = c.as_slice.ensures.value ∙ c.in_ok-block.ensures.items ∙ ap block_of last in
    subst (λ bs. LeavesOnly m c.args.disk.now c.append.new.disk (λ f. Records magic f bodies ⊎ Records magic f bs)) (with_block entries c.args.fresh bodies c.as_slice.result.now (omega (arith, c.if-fresh-lt256.false)) block)
    (c.append.ensures.any_moment magic bodies (same_open m magic c.args.self.now.journal c.make_room.new.self c.args.disk.now bodies c.make_room.ensures.same on))

pub returns-clause-any_moment : goal.returns-clause-any_moment
returns-clause-any_moment g c = λ magic bodies on.
    let m = g.D.Disk.model in
    let entries = c.args.self.now.versions.entries.items in
    let known = c.as_slice-entries.result.now in
    let last = take_rest known c.saturating_sub.result ∙ ap (λ k. drop k known) c.saturating_sub.ensures ∙ ap (last_of block_size) c.as_slice-entries.ensures.value in
    let block = c.as_slice.ensures.value ∙ c.in_ok-block.ensures.items ∙ ap block_of last in
    subst (λ bs. LeavesOnly m c.args.disk.now c.append.new.disk (λ f. Records magic f bodies ⊎ Records magic f bs)) (with_block entries c.args.fresh bodies c.as_slice.result.now (omega (arith, c.if-fresh-lt256.false)) block)
    (c.append.ensures.any_moment magic bodies (same_open m magic c.args.self.now.journal c.make_room.new.self c.args.disk.now bodies c.make_room.ensures.same on))

pub returns-clause-added : goal.returns-clause-added
returns-clause-added g c = λ magic bodies on.
    let m = g.D.Disk.model in
    let entries = c.args.self.now.versions.entries.items in
    let known = c.as_slice-entries.result.now in
    let last = take_rest known c.saturating_sub.result ∙ ap (λ k. drop k known) c.saturating_sub.ensures ∙ ap (last_of block_size) c.as_slice-entries.ensures.value in
    let block = c.as_slice.ensures.value ∙ c.in_ok-block.ensures.items ∙ ap block_of last in
    subst (λ bs. IsOpenOn m magic c.append.new.self c.append.new.disk bs) (with_block entries c.args.fresh bodies c.as_slice.result.now (omega (arith, c.if-fresh-lt256.false)) block)
    (on_ok_there c.append.result _ (sym c.is_err.ensures.value ∙ c.if-is_err.false) c.append.ensures.appended magic bodies (same_open m magic c.args.self.now.journal c.make_room.new.self c.args.disk.now bodies c.make_room.ensures.same on))
