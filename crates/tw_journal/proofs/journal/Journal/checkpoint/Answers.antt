use Rattle.std.proofs.Common.{inl, inr, ◌+◌, ◌∷◌, [], ℕ, length, refl, sym, subst, ◌∙◌, arith}
use Rattle.tw_world.proofs.Moments.{started, weaker}
use Rattle.tw_journal.proofs.Offsets.{left_records}
use Rattle.tw_journal.specs.Checkpoint.{IsReplacing}
use Rattle.tw_journal.specs.Journal.{IsAtRest, RecordsOrOne}
use Rattle.tw_journal.specs.Record.{IsLongerBy}
use Rattle.tw_journal.proofs.journal.Journal.checkpoint.Goals as goal

pub returns-in-Err-clause-any_moment : goal.returns-in-Err-clause-any_moment
returns-in-Err-clause-any_moment g c = λ magic bodies was.
    weaker g.D.Disk.model c.args.disk.now c.replace_records.new.disk (IsReplacing magic _ bodies c.args.body.now) (RecordsOrOne magic bodies c.args.body.now) (c.replace_records.ensures.any_moment magic bodies was.rest) (λ f has. has.stands)

pub returns-clause-any_moment : goal.returns-clause-any_moment
returns-clause-any_moment g c = λ magic bodies was.
    weaker g.D.Disk.model c.args.disk.now c.replace_records.new.disk (IsReplacing magic _ bodies c.args.body.now) (RecordsOrOne magic bodies c.args.body.now) (c.replace_records.ensures.any_moment magic bodies was.rest) (λ f has. has.stands)

pub returns-in-Err-clause-growth : goal.returns-in-Err-clause-growth
returns-in-Err-clause-growth g c = λ magic bodies was.
    let m = g.D.Disk.model in
    weaker m c.args.disk.now c.replace_records.new.disk (IsReplacing magic _ bodies c.args.body.now) (IsLongerBy m c.args.disk.now (length c.args.body.now + 7)) (c.replace_records.ensures.any_moment magic bodies was.rest)
    (λ f has. inr (omega (arith, has.long, was.end)))

pub returns-clause-growth : goal.returns-clause-growth
returns-clause-growth g c = λ magic bodies was.
    let m = g.D.Disk.model in
    weaker m c.args.disk.now c.replace_records.new.disk (IsReplacing magic _ bodies c.args.body.now) (IsLongerBy m c.args.disk.now (length c.args.body.now + 7)) (c.replace_records.ensures.any_moment magic bodies was.rest)
    (λ f has. inr (omega (arith, has.long, was.end)))

pub returns-then-size-gt-MAX_RECORD-clause-any_moment : goal.returns-then-size-gt-MAX_RECORD-clause-any_moment
returns-then-size-gt-MAX_RECORD-clause-any_moment g c = λ magic bodies was.
    let m = g.D.Disk.model in
    started m g.met.D.Disk.only_now c.args.disk.now (RecordsOrOne magic bodies c.args.body.now) (λ f left. inl (left_records m magic c.args.self.now c.args.disk.now bodies was f left))

pub returns-then-size-gt-MAX_RECORD-clause-growth : goal.returns-then-size-gt-MAX_RECORD-clause-growth
returns-then-size-gt-MAX_RECORD-clause-growth g c = λ magic bodies was.
    let m = g.D.Disk.model in
    started m g.met.D.Disk.only_now c.args.disk.now (IsLongerBy m c.args.disk.now (length c.args.body.now + 7)) (λ f left. inl left)

pub returns-clause-replaced : goal.returns-clause-replaced
returns-clause-replaced g c = λ magic bodies was.
    let m = g.D.Disk.model in
    let made = c.in_default.ensures.done magic bodies was.rest in
    record {
      rest = subst (λ (s : ℕ). IsAtRest m magic s c.checkpoint_offset-at.result c.replace_records.new.disk (c.args.body.now ∷ [])) (sym c.other_selector-self.ensures.selector) made.0;
      version = made.1 ∙ was.version;
      open_now = was.open_now;
      end = omega (arith, c.in_default.ensures.len, g.met.D.Disk.has_length c.replace_records.new.disk made.0.tells);
      count = refl;
      offsets = λ k lt. absurd (omega arith);
      firsts = λ k lt. absurd (omega arith);
    }
