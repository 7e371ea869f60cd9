use Rattle.std.proofs.Common.{◌≡◌, ◌<◌, ◌^◌, length, arith, sym, ◌∙◌}
use Rattle.tw_journal.specs.Record.{IsRecordLength}
use Rattle.tw_journal.proofs.CheckpointRuns.{after_copy, after_point, after_end, at_rest_then}
use Rattle.tw_journal.proofs.checkpoint.replace_records.Goals as goal

pub returns-in_err-len-clause-any_moment : goal.returns-in_err-len-clause-any_moment
returns-in_err-len-clause-any_moment g c = λ magic bodies rest.
    let m = g.D.Disk.model in
    let long : length (m.seen c.args.disk.now) ≡ c.args.end = sym (g.met.D.Disk.has_length c.args.disk.now rest.tells) ∙ c.requires.len in
    let fits : IsRecordLength c.args.body.now = omega (arith, c.requires.size) in
    after_copy m c.args.disk.now magic c.args.body.now bodies c.args.start c.args.end c.args.at c.args.selector rest fits long c.requires.front c.requires.offset (omega (arith, c.ranges.at.fits)) c.requires.selector.1 c.copy_record.new.disk (c.copy_record.ensures.any_moment rest.tells rest.settled)

pub returns-in_err-point_to-clause-any_moment : goal.returns-in_err-point_to-clause-any_moment
returns-in_err-point_to-clause-any_moment g c = λ magic bodies rest.
    let m = g.D.Disk.model in
    let long : length (m.seen c.args.disk.now) ≡ c.args.end = sym (g.met.D.Disk.has_length c.args.disk.now rest.tells) ∙ c.requires.len in
    let fits : IsRecordLength c.args.body.now = omega (arith, c.requires.size) in
    let small : c.args.at < 2 ^ 64 = omega (arith, c.ranges.at.fits) in
    let one = after_copy m c.args.disk.now magic c.args.body.now bodies c.args.start c.args.end c.args.at c.args.selector rest fits long c.requires.front c.requires.offset small c.requires.selector.1 c.copy_record.new.disk (c.copy_record.ensures.any_moment rest.tells rest.settled) in
    let copied = c.in_ok-len.ensures.done rest.tells rest.settled in
    after_point m c.args.disk.now magic c.args.body.now bodies c.args.start c.args.end c.args.at c.args.selector rest fits long c.requires.front c.requires.offset small c.requires.selector.1 c.copy_record.new.disk c.point_to.new.disk one copied.0 (c.point_to.ensures.any_moment (c.copy_record.ensures.kept.tells ∙ rest.tells) copied.1)

pub returns-in_err-cut_tail-clause-any_moment : goal.returns-in_err-cut_tail-clause-any_moment
returns-in_err-cut_tail-clause-any_moment g c = λ magic bodies rest.
    let m = g.D.Disk.model in
    let long : length (m.seen c.args.disk.now) ≡ c.args.end = sym (g.met.D.Disk.has_length c.args.disk.now rest.tells) ∙ c.requires.len in
    let fits : IsRecordLength c.args.body.now = omega (arith, c.requires.size) in
    let small : c.args.at < 2 ^ 64 = omega (arith, c.ranges.at.fits) in
    let one = after_copy m c.args.disk.now magic c.args.body.now bodies c.args.start c.args.end c.args.at c.args.selector rest fits long c.requires.front c.requires.offset small c.requires.selector.1 c.copy_record.new.disk (c.copy_record.ensures.any_moment rest.tells rest.settled) in
    let copied = c.in_ok-len.ensures.done rest.tells rest.settled in
    let told = c.copy_record.ensures.kept.tells ∙ rest.tells in
    let two = after_point m c.args.disk.now magic c.args.body.now bodies c.args.start c.args.end c.args.at c.args.selector rest fits long c.requires.front c.requires.offset small c.requires.selector.1 c.copy_record.new.disk c.point_to.new.disk one copied.0 (c.point_to.ensures.any_moment told copied.1) in
    let counts = c.in_ok-point_to.ensures.done told in
    after_end m c.args.disk.now magic c.args.body.now bodies c.args.start c.args.end c.args.at c.args.selector rest fits long c.requires.front c.requires.offset small c.requires.selector.1 c.copy_record.new.disk c.point_to.new.disk c.cut_tail.new.disk two copied.0 counts.0 (c.cut_tail.ensures.any_moment (c.point_to.ensures.kept.tells ∙ told) counts.1)

pub returns-clause-any_moment : goal.returns-clause-any_moment
returns-clause-any_moment g c = λ magic bodies rest.
    let m = g.D.Disk.model in
    let long : length (m.seen c.args.disk.now) ≡ c.args.end = sym (g.met.D.Disk.has_length c.args.disk.now rest.tells) ∙ c.requires.len in
    let fits : IsRecordLength c.args.body.now = omega (arith, c.requires.size) in
    let small : c.args.at < 2 ^ 64 = omega (arith, c.ranges.at.fits) in
    let one = after_copy m c.args.disk.now magic c.args.body.now bodies c.args.start c.args.end c.args.at c.args.selector rest fits long c.requires.front c.requires.offset small c.requires.selector.1 c.copy_record.new.disk (c.copy_record.ensures.any_moment rest.tells rest.settled) in
    let copied = c.in_ok-len.ensures.done rest.tells rest.settled in
    let told = c.copy_record.ensures.kept.tells ∙ rest.tells in
    let two = after_point m c.args.disk.now magic c.args.body.now bodies c.args.start c.args.end c.args.at c.args.selector rest fits long c.requires.front c.requires.offset small c.requires.selector.1 c.copy_record.new.disk c.point_to.new.disk one copied.0 (c.point_to.ensures.any_moment told copied.1) in
    let counts = c.in_ok-point_to.ensures.done told in
    after_end m c.args.disk.now magic c.args.body.now bodies c.args.start c.args.end c.args.at c.args.selector rest fits long c.requires.front c.requires.offset small c.requires.selector.1 c.copy_record.new.disk c.point_to.new.disk c.cut_tail.new.disk two copied.0 counts.0 (c.cut_tail.ensures.any_moment (c.point_to.ensures.kept.tells ∙ told) counts.1)

pub returns-clause-done : goal.returns-clause-done
returns-clause-done g c = λ magic bodies rest.
    let m = g.D.Disk.model in
    let long : length (m.seen c.args.disk.now) ≡ c.args.end = sym (g.met.D.Disk.has_length c.args.disk.now rest.tells) ∙ c.requires.len in
    let fits : IsRecordLength c.args.body.now = omega (arith, c.requires.size) in
    let copied = c.in_ok-len.ensures.done rest.tells rest.settled in
    let told = c.copy_record.ensures.kept.tells ∙ rest.tells in
    let counts = c.in_ok-point_to.ensures.done told in
    let told_2 = c.point_to.ensures.kept.tells ∙ told in
    let cut = c.in_ok-cut_tail.ensures.done told_2 counts.1 in
    at_rest_then m c.args.disk.now magic c.args.body.now bodies c.args.start c.args.end c.args.at c.args.selector rest fits long c.requires.front c.requires.offset (omega (arith, c.ranges.at.fits)) c.requires.selector.1 c.copy_record.new.disk c.point_to.new.disk c.cut_tail.new.disk copied.0 counts.0 (c.cut_tail.ensures.kept.tells ∙ told_2) cut.1 cut.0
