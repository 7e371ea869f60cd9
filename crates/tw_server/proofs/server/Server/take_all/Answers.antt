use Rattle.std.proofs.Common.{◌∙◌, ◌++◌, ◌∷◌, [], reverse, refl, sym, ap, subst, arith}
use Rattle.std.specs.Prelude.{All}
use Rattle.std.proofs.lemmas.Bool.{true≢false}
use Rattle.std.proofs.lemmas.List.{nil_from_length}
use Rattle.tw_world.proofs.Moments.{untouched, untouched_join}
use Rattle.tw_journal.specs.Journal.{is_closed, journal_end, journal_count}
use Rattle.tw_records.specs.Bodies.{block_size}
use Rattle.tw_records.specs.Table.{table_by}
use Rattle.tw_journal.specs.declared.journal.Journal.{Journal}
use Rattle.tw_records.specs.Opening.{IsInside}
use Rattle.tw_server.specs.Opening.{IfDamaged, IsDamageBy, IsReadBy, OnNothing, TakeRefused, no_rows}
use Rattle.tw_server.proofs.Openings.{open_now, take_refused_after, damage_seen}
use Rattle.tw_server.proofs.Refusals.{from_fault}
use Rattle.tw_server.proofs.Taken.{all_last, all_before, one_fewer, none_left, one_more, damage_there}
use Rattle.tw_server.proofs.server.Server.take_all.Goals as goal

pub take-requires-clause-inside : goal.take-requires-clause-inside
take-requires-clause-inside g c =
    let l = c.loop-source in
    subst (λ (j : Journal). IsInside (journal_count j) c.in-Some.source) (sym l.invariant.same)
    (all_last (IsInside (journal_count c.args.self.now.journal)) l.sources.items c.pop.new.self.items c.in-Some.source c.in-Some.ensures.items l.invariant.inside)

pub loop-source-init : goal.loop-source-init
loop-source-init g c = record {
  done = [];
  all = refl;
  inside = c.requires.inside;
  same = refl;
  untouched = untouched g.D.Disk.model g.met.D.Disk.only_now c.args.disk.now;
  read = λ bodies on nothing. ((no_rows, refl, nothing), λ held. absurd (true≢false (sym held ∙ c.on-reader.ensures.none)));
  open_now = c.requires.open;
  len = c.requires.length;
  window = c.on-reader.ensures.window;
}

pub loop-source-preserved : goal.loop-source-preserved
loop-source-preserved g c =
    let m = g.D.Disk.model in
    let l = c.loop-source in
    let so_far = l.invariant in
    let all = one_fewer (reverse c.args.sources.items) so_far.done l.sources.items c.pop.new.self.items c.in-Some.source so_far.all c.in-Some.ensures.items in
    record {
      done = so_far.done ++ c.in-Some.source ∷ [];
      all = all ∙ ap (λ left. (so_far.done ++ c.in-Some.source ∷ []) ++ reverse left) (sym c.release.ensures);
      inside =
          subst (All (IsInside (journal_count c.args.self.now.journal))) (sym c.release.ensures)
          (all_before (IsInside (journal_count c.args.self.now.journal)) l.sources.items c.pop.new.self.items c.in-Some.source c.in-Some.ensures.items so_far.inside);
      same = c.take.ensures.journal ∙ so_far.same;
      untouched = untouched_join m c.args.disk.now l.disk c.take.new.disk so_far.untouched c.take.ensures.untouched;
      read = λ bodies on nothing.
          let read = so_far.read bodies on nothing in
          let still = open_now m c.args.self.now.journal l.self.journal c.args.disk.now l.disk bodies so_far.same so_far.untouched on in
          let next = c.in_ok-take.ensures.taken bodies still read.1 read.0.0 read.0.2 in
          ((next.0.0, one_more bodies (reverse c.args.sources.items) so_far.done (reverse c.pop.new.self.items) c.in-Some.source read.0.0 all read.0.1 ∙ next.0.1, next.0.2), next.1);
      open_now = ap (λ j. is_closed j) c.take.ensures.journal ∙ so_far.open_now;
      len = c.take.ensures.untouched.len ∙ so_far.len ∙ ap (λ j. journal_end j) (sym c.take.ensures.journal);
      window = c.in_ok-take.ensures.window;
    }

pub returns-in_err-take-clause-refused : goal.returns-in_err-take-clause-refused
returns-in_err-take-clause-refused g c =
    let m = g.D.Disk.model in
    from_fault (TakeRefused m c.args.disk.now c.take.new.disk) c.from_residual.result c.in_err-take.field-0.0 c.from_residual.ensures.1
    (take_refused_after m c.args.disk.now c.loop-source.disk c.take.new.disk c.in_err-take.field-0.0 c.loop-source.invariant.untouched c.in_err-take.ensures.refused)

pub returns-in_err-take-clause-damaged : goal.returns-in_err-take-clause-damaged
returns-in_err-take-clause-damaged g c =
    let m = g.D.Disk.model in
    let l = c.loop-source in
    let so_far = l.invariant in
    from_fault (λ e. OnNothing m c.args.self.now c.args.disk.now (λ bodies. IfDamaged e (IsDamageBy (m.seen c.args.disk.now) bodies (table_by block_size bodies no_rows (reverse c.args.sources.items))))) c.from_residual.result c.in_err-take.field-0.0 c.from_residual.ensures.1
    (λ bodies on nothing.
    let read = so_far.read bodies on nothing in
    let still = open_now m c.args.self.now.journal l.self.journal c.args.disk.now l.disk bodies so_far.same so_far.untouched on in
    damage_seen m c.args.disk.now l.disk bodies c.in_err-take.field-0.0 _ (so_far.untouched.seen on.rest.tells)
    (damage_there bodies (reverse c.args.sources.items) so_far.done (reverse c.pop.new.self.items) c.in-Some.source read.0.0
    (one_fewer (reverse c.args.sources.items) so_far.done l.sources.items c.pop.new.self.items c.in-Some.source so_far.all c.in-Some.ensures.items) read.0.1 (m.seen l.disk) c.in_err-take.field-0.0 (c.in_err-take.ensures.damaged bodies still read.1 read.0.0 read.0.2)))

pub returns-clause-taken : goal.returns-clause-taken
returns-clause-taken g c = λ bodies on nothing.
    let l = c.loop-source in
    let left = nil_from_length l.sources.items (omega (arith, c.in_default.ensures.cases.0)) in
    subst (λ ss. IsReadBy l.self (table_by block_size bodies no_rows ss)) (none_left (reverse c.args.sources.items) l.invariant.done l.sources.items l.invariant.all left) (l.invariant.read bodies on nothing).0
