use Rattle.std.proofs.Common.{◌∙◌, refl, sym, arith}
use Rattle.tw_journal.specs.Journal.{journal_count}
use Rattle.tw_server.proofs.Counts.{numbers_moved, placed_moved}
use Rattle.tw_server.proofs.server.Server.make_image_room.Goals as goal

pub invariant_of-self : goal.invariant_of-self
invariant_of-self c =
    let old = c.args.self.now in
    let same = c.make_room.ensures.same in
    let ns = old.versions.numbers.items in
    let count = same.count in
    record {
      counted = λ open_now. numbers_moved ns ns (journal_count old.journal) (journal_count c.make_room.new.self) refl (omega (arith, count)) (old.counted (sym same.closed ∙ open_now));
      placed = λ open_now. placed_moved old.images old.images (journal_count old.journal) (journal_count c.make_room.new.self) (λ q. refl) (omega (arith, count)) (old.placed (sym same.closed ∙ open_now));
    }

pub invariant_of-self-2 : goal.invariant_of-self-2
invariant_of-self-2 c =
    let old = c.args.self.now in
    let same = c.make_room.ensures.same in
    let ns = old.versions.numbers.items in
    let count = same.count in
    record {
      counted = λ open_now. numbers_moved ns ns (journal_count old.journal) (journal_count c.make_room.new.self) refl (omega (arith, count)) (old.counted (sym same.closed ∙ open_now));
      placed = λ open_now. placed_moved old.images c.make_room-2.new.self (journal_count old.journal) (journal_count c.make_room.new.self) c.make_room-2.ensures.same (omega (arith, count)) (old.placed (sym same.closed ∙ open_now));
    }
