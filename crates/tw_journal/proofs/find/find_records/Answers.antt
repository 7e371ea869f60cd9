use Rattle.std.proofs.Common.{arith, ◌≡◌, ◌<◌, ◌≤◌, ◌+◌, ◌^◌, ℕ, List, length, take, drop, ◌∙◌, ap, subst}
use Rattle.std.proofs.lemmas.List.{length_push}
use Rattle.tw_world.proofs.Moments.{untouched, untouched_join}
use Rattle.tw_journal.specs.Record.{first_in}
use Rattle.tw_journal.specs.Open.{HeadIs, HeadInside, SearchRefused}
use Rattle.tw_journal.specs.declared.find.Head.TheVariants.{Whole}
use Rattle.tw_journal.proofs.Refusals.{passed_on}
use Rattle.tw_journal.proofs.Search.{nothing_yet, one_more, head_refused, at_the_end}
use Rattle.tw_journal.proofs.find.find_records.Goals as goal

pub loop-at-init : goal.loop-at-init
loop-at-init g c =
    let m = g.D.Disk.model in
    record {
      inside = c.requires.inside;
      few = omega arith;
      untouched = untouched m g.met.D.Disk.only_now c.args.disk.now;
      shown = c.on-window.ensures;
      kept = ap length c.new-offsets.ensures.items;
      kept_firsts = ap length c.new-firsts.ensures.items;
      so_far = λ tells. nothing_yet (m.seen c.args.disk.now) c.args.start _ _ c.new-offsets.ensures.items c.new-firsts.ensures.items;
    }

pub loop-at-preserved : goal.loop-at-preserved
loop-at-preserved g c =
    let inv = c.loop-at.invariant in
    let m = g.D.Disk.model in
    let inside : (c.loop-at.at + 5 + c.in-Whole.size ≤ c.args.len) × (c.in-Whole.size < 2 ^ 32) = subst (HeadInside c.loop-at.at c.args.len) c.in-Whole.is c.in_ok-read_head.ensures.inside in
    record {
      inside = omega (arith, inside.0);
      few = omega (arith, inv.few);
      untouched = untouched_join m c.args.disk.now c.loop-at.disk c.read_first.new.disk inv.untouched (untouched_join m c.loop-at.disk c.read_head.new.disk c.read_first.new.disk c.read_head.ensures.untouched c.read_first.ensures.untouched);
      shown = c.read_first.ensures.window;
      kept = omega (arith, inv.kept, ap length c.in_ok-add_found-in-Whole.ensures.offsets, length_push c.loop-at.offsets.items c.loop-at.at);
      kept_firsts = omega (arith, inv.kept_firsts, ap length c.in_ok-add_found-in-Whole.ensures.firsts, length_push c.loop-at.firsts.items c.in_ok-first-in-Whole.first);
      so_far = λ tells.
          let told = inv.untouched.kept.tells ∙ tells in
          let head : HeadIs (drop c.loop-at.at (m.seen c.args.disk.now)) (Whole c.in-Whole.size) = subst (λ s. HeadIs (drop c.loop-at.at s) (Whole c.in-Whole.size)) (inv.untouched.seen tells) (subst (HeadIs (drop c.loop-at.at (m.seen c.loop-at.disk))) c.in-Whole.is (c.in_ok-read_head.ensures.found told)) in
          let first : c.in_ok-first-in-Whole.first ≡ first_in (take c.in-Whole.size (drop (c.loop-at.at + 5) (m.seen c.args.disk.now))) =
          c.in_ok-first-in-Whole.ensures.first (c.read_head.ensures.untouched.kept.tells ∙ told) ∙ ap (λ (s : List ℕ). first_in (take c.in-Whole.size (drop (c.loop-at.at + 5) s))) (c.read_head.ensures.untouched.seen told ∙ inv.untouched.seen tells) in
          one_more (m.seen c.args.disk.now) c.args.start c.loop-at.at c.loop-at.count c.in-Whole.size c.in_ok-first-in-Whole.first c.loop-at.offsets.items c.loop-at.firsts.items _ _
          c.in_ok-add_found-in-Whole.ensures.offsets c.in_ok-add_found-in-Whole.ensures.firsts inv.kept inv.kept_firsts (inv.so_far tells) head first inside.1;
    }

pub returns-in_err-read_head-clause-refused : goal.returns-in_err-read_head-clause-refused
returns-in_err-read_head-clause-refused g c = λ magic.
    let inv = c.loop-at.invariant in
    let m = g.D.Disk.model in
    passed_on c.from_residual.result c.in_err-read_head.field-0.0 (SearchRefused m c.args.disk.now c.read_head.new.disk magic c.args.start) c.from_residual.ensures.1
    (head_refused m c.args.disk.now c.loop-at.disk c.read_head.new.disk magic c.args.start c.loop-at.at c.loop-at.count c.loop-at.offsets.items c.loop-at.firsts.items c.in_err-read_head.field-0.0 inv.untouched inv.so_far c.in_err-read_head.ensures.refused)

pub returns-clause-found : goal.returns-clause-found
returns-clause-found g c = λ tells.
    let inv = c.loop-at.invariant in
    let s = g.D.Disk.model.seen c.args.disk.now in
    at_the_end s c.args.start c.loop-at.at c.loop-at.count c.loop-at.offsets.items c.loop-at.firsts.items (inv.so_far tells) (omega (arith, c.loop-at-test.false, c.requires.len, g.met.D.Disk.has_length c.args.disk.now tells))
