use Rattle.std.proofs.Common.{◌<◌, ◌∙◌, arith, sym, ap, length, drop}
use Rattle.tw_world.proofs.Moments.{weaker}
use Rattle.tw_journal.specs.Writes.{IsOldOr}
use Rattle.tw_journal.specs.Form.{start_in, selector_in, version_in}
use Rattle.tw_journal.specs.Upgrade.{HasAtMost, with_version}
use Rattle.tw_journal.proofs.Forms.{not_above}
use Rattle.tw_journal.proofs.UpgradeFiles.{brought_start, brought_first, brought_version, brought_rest, brought_long, brought_has}
use Rattle.tw_journal.proofs.journal.Journal.write_version.Goals as goal

pub returns-in-Err-clause-any_moment : goal.returns-in-Err-clause-any_moment
returns-in-Err-clause-any_moment g c = λ magic bodies was second.
    let m = g.D.Disk.model in
    let file = m.seen c.args.disk.now in
    let plain : selector_in file < 4 = omega (arith, was.rest.selector_is, c.args.self.now.form) in
    weaker m c.args.disk.now c.write_byte.new.disk (IsOldOr (with_version c.args.version) file) (HasAtMost magic bodies c.args.self.now.end) (c.write_byte.ensures.any_moment was.rest.tells was.rest.settled)
    (λ f has. record { has = (brought_has magic file bodies c.args.self.now.start c.args.version was.rest.form plain (c.args.self.now.areas (not_above 2 c.args.self.now.selector c.requires.areas)) (c.requires.second ∙ sym second) was.rest.file was.rest.lengths f has).has; long = omega (arith, was.end, (brought_has magic file bodies c.args.self.now.start c.args.version was.rest.form plain (c.args.self.now.areas (not_above 2 c.args.self.now.selector c.requires.areas)) (c.requires.second ∙ sym second) was.rest.file was.rest.lengths f has).long) })

pub returns-clause-any_moment : goal.returns-clause-any_moment
returns-clause-any_moment g c = λ magic bodies was second.
    let m = g.D.Disk.model in
    let file = m.seen c.args.disk.now in
    let plain : selector_in file < 4 = omega (arith, was.rest.selector_is, c.args.self.now.form) in
    weaker m c.args.disk.now c.write_byte.new.disk (IsOldOr (with_version c.args.version) file) (HasAtMost magic bodies c.args.self.now.end) (c.write_byte.ensures.any_moment was.rest.tells was.rest.settled)
    (λ f has. record { has = (brought_has magic file bodies c.args.self.now.start c.args.version was.rest.form plain (c.args.self.now.areas (not_above 2 c.args.self.now.selector c.requires.areas)) (c.requires.second ∙ sym second) was.rest.file was.rest.lengths f has).has; long = omega (arith, was.end, (brought_has magic file bodies c.args.self.now.start c.args.version was.rest.form plain (c.args.self.now.areas (not_above 2 c.args.self.now.selector c.requires.areas)) (c.requires.second ∙ sym second) was.rest.file was.rest.lengths f has).long) })

pub returns-clause-upgraded : goal.returns-clause-upgraded
returns-clause-upgraded g c = λ magic bodies was second.
    let m = g.D.Disk.model in
    let file = m.seen c.args.disk.now in
    let plain : selector_in file < 4 = omega (arith, was.rest.selector_is, c.args.self.now.form) in
    let low = c.args.self.now.areas (not_above 2 c.args.self.now.selector c.requires.areas) in
    let made = c.in_default.ensures.done was.rest.tells in
    record {
      rest = record {
        tells = c.write_byte.ensures.kept.tells ∙ was.rest.tells;
        settled = made.1;
        form = ap (start_in magic) made.0 ∙ brought_start magic file bodies c.args.self.now.start c.args.version was.rest.form plain low (c.requires.second ∙ sym second);
        selector_is = ap selector_in made.0 ∙ brought_first magic file bodies c.args.self.now.start c.args.version was.rest.form plain low (c.requires.second ∙ sym second) ∙ was.rest.selector_is;
        file = ap (drop c.args.self.now.start) made.0 ∙ brought_rest magic file bodies c.args.self.now.start c.args.version was.rest.form plain low (c.requires.second ∙ sym second) ∙ was.rest.file;
        lengths = was.rest.lengths;
      };
      version = ap version_in made.0 ∙ brought_version magic file bodies c.args.self.now.start c.args.version was.rest.form plain low (c.requires.second ∙ sym second);
      open_now = was.open_now;
      end = was.end ∙ sym (ap length made.0 ∙ brought_long magic file bodies c.args.self.now.start c.args.version was.rest.form plain low (c.requires.second ∙ sym second));
      count = was.count;
      offsets = was.offsets;
      firsts = was.firsts;
    }
