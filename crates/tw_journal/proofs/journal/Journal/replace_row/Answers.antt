use Rattle.std.proofs.Common.{◌+◌, ◌∙◌, inl, arith, refl, sym, ap, length}
use Rattle.tw_journal.specs.Checkpoint.{IsReplacing}
use Rattle.tw_journal.proofs.Offsets.{left_records}
use Rattle.tw_journal.proofs.Forms.{below_test}
use Rattle.tw_journal.proofs.UpgradeFiles.{first_row, upgraded_end}
use Rattle.tw_world.proofs.Moments.{started}
use Rattle.tw_journal.proofs.journal.Journal.replace_row.Goals as goal

pub returns-then-size-gt-MAX_RECORD-clause-any_moment : goal.returns-then-size-gt-MAX_RECORD-clause-any_moment
returns-then-size-gt-MAX_RECORD-clause-any_moment g c = λ magic bodies was second.
    let m = g.D.Disk.model in
    started m g.met.D.Disk.only_now c.args.disk.now (IsReplacing magic (c.args.self.now.end + (length c.args.body.now + 29)) bodies c.args.body.now)
    (λ f left. record { stands = inl (left_records m magic c.args.self.now c.args.disk.now bodies was f left); long = omega (arith, was.end, ap length (was.rest.settled f left)) })

pub returns-in-Err-clause-any_moment : goal.returns-in-Err-clause-any_moment
returns-in-Err-clause-any_moment g c = λ magic bodies was second. c.move_apart.ensures.any_moment magic bodies (first_row g.D.Disk.model magic c.args.self.now c.args.disk.now bodies was (below_test 2 c.args.self.now.selector c.requires.row) c.requires.first second)

pub returns-clause-any_moment : goal.returns-clause-any_moment
returns-clause-any_moment g c = λ magic bodies was second. c.move_apart.ensures.any_moment magic bodies (first_row g.D.Disk.model magic c.args.self.now c.args.disk.now bodies was (below_test 2 c.args.self.now.selector c.requires.row) c.requires.first second)

pub returns-clause-upgraded : goal.returns-clause-upgraded
returns-clause-upgraded g c = λ magic bodies was second.
    let m = g.D.Disk.model in
    let made = c.in_default.ensures.done magic bodies (first_row m magic c.args.self.now c.args.disk.now bodies was (below_test 2 c.args.self.now.selector c.requires.row) c.requires.first second) in
    record {
      rest = made.rest;
      version = made.version ∙ sym c.requires.second;
      open_now = was.open_now;
      end = upgraded_end m magic _ c.move_apart.new.disk _ made.rest;
      count = refl;
      offsets = λ k lt. absurd (omega arith);
      firsts = λ k lt. absurd (omega arith);
    }
