use Rattle.std.proofs.Common.{◌≡◌, ◌<◌, ◌^◌, ◌∷◌, [], length, arith, sym, ◌∙◌, ap, subst, List, ℕ}
use Rattle.tw_journal.specs.Record.{IsRecordLength}
use Rattle.tw_journal.specs.Upgrade.{set_apart, marked, ended_form, IsSettled}
use Rattle.tw_journal.specs.declared.form.Form.{Form}
use Rattle.tw_journal.proofs.UpgradeFiles.{after_apart, after_mark, after_settle, row_there}
use Rattle.tw_journal.proofs.upgrade.move_apart.Goals as goal

pub returns-in_err-len-clause-any_moment : goal.returns-in_err-len-clause-any_moment
returns-in_err-len-clause-any_moment g c = λ magic bodies first.
    let m = g.D.Disk.model in
    let long : length (m.seen c.args.disk.now) ≡ c.args.end = sym (g.met.D.Disk.has_length c.args.disk.now first.rest.tells) ∙ c.requires.len in
    let fits : IsRecordLength c.args.body.now = omega (arith, c.requires.size) in
    after_apart m c.args.disk.now magic c.args.body.now bodies c.args.end c.args.at first fits long c.requires.behind.0 c.requires.behind.1 c.requires.near c.set_apart.new.disk (c.set_apart.ensures.any_moment first.rest.tells first.rest.settled)

pub returns-in_err-write_byte-clause-any_moment : goal.returns-in_err-write_byte-clause-any_moment
returns-in_err-write_byte-clause-any_moment g c = λ magic bodies first.
    let m = g.D.Disk.model in
    let long : length (m.seen c.args.disk.now) ≡ c.args.end = sym (g.met.D.Disk.has_length c.args.disk.now first.rest.tells) ∙ c.requires.len in
    let fits : IsRecordLength c.args.body.now = omega (arith, c.requires.size) in
    let small : c.args.at < 2 ^ 56 = omega (arith, c.requires.near, c.in_ok-len.ensures.len.1, c.in_ok-len.ensures.len.2) in
    let one = after_apart m c.args.disk.now magic c.args.body.now bodies c.args.end c.args.at first fits long c.requires.behind.0 c.requires.behind.1 c.requires.near c.set_apart.new.disk (c.set_apart.ensures.any_moment first.rest.tells first.rest.settled) in
    let told = c.set_apart.ensures.kept.tells ∙ first.rest.tells in
    let apart = c.in_ok-len.ensures.done first.rest.tells first.rest.settled in
    after_mark m c.args.disk.now magic c.args.body.now bodies c.args.end c.args.at first fits long c.requires.behind.0 c.requires.behind.1 c.requires.near small c.set_apart.new.disk c.write_byte.new.disk one apart.0 (c.write_byte.ensures.any_moment told apart.1)

pub returns-in_err-settle-clause-any_moment : goal.returns-in_err-settle-clause-any_moment
returns-in_err-settle-clause-any_moment g c = λ magic bodies first.
    let m = g.D.Disk.model in
    let long : length (m.seen c.args.disk.now) ≡ c.args.end = sym (g.met.D.Disk.has_length c.args.disk.now first.rest.tells) ∙ c.requires.len in
    let fits : IsRecordLength c.args.body.now = omega (arith, c.requires.size) in
    let small : c.args.at < 2 ^ 56 = omega (arith, c.requires.near, c.in_ok-len.ensures.len.1, c.in_ok-len.ensures.len.2) in
    let one = after_apart m c.args.disk.now magic c.args.body.now bodies c.args.end c.args.at first fits long c.requires.behind.0 c.requires.behind.1 c.requires.near c.set_apart.new.disk (c.set_apart.ensures.any_moment first.rest.tells first.rest.settled) in
    let told = c.set_apart.ensures.kept.tells ∙ first.rest.tells in
    let apart = c.in_ok-len.ensures.done first.rest.tells first.rest.settled in
    let two = after_mark m c.args.disk.now magic c.args.body.now bodies c.args.end c.args.at first fits long c.requires.behind.0 c.requires.behind.1 c.requires.near small c.set_apart.new.disk c.write_byte.new.disk one apart.0 (c.write_byte.ensures.any_moment told apart.1) in
    let told_2 = c.write_byte.ensures.kept.tells ∙ told in
    let mark = c.in_ok-write_byte.ensures.done told in
    let seen : m.seen c.write_byte.new.disk ≡ marked (set_apart c.args.at c.args.body.now (m.seen c.args.disk.now)) = mark.0 ∙ ap (λ (s : List ℕ). marked s) apart.0 in
    let row = row_there m c.args.disk.now magic c.args.body.now bodies c.args.end c.args.at first fits long c.requires.behind.0 c.requires.behind.1 c.requires.near small c.write_byte.new.disk seen in
    after_settle m c.args.disk.now magic c.args.body.now bodies c.args.end c.args.at first fits long c.requires.behind.0 c.requires.behind.1 c.requires.near small c.write_byte.new.disk c.settle.new.disk two seen
    (c.settle.ensures.any_moment magic (c.args.body.now ∷ []) told_2 mark.1 (first.second ∙ sym c.requires.second) row)

pub returns-clause-any_moment : goal.returns-clause-any_moment
returns-clause-any_moment g c = λ magic bodies first.
    let m = g.D.Disk.model in
    let long : length (m.seen c.args.disk.now) ≡ c.args.end = sym (g.met.D.Disk.has_length c.args.disk.now first.rest.tells) ∙ c.requires.len in
    let fits : IsRecordLength c.args.body.now = omega (arith, c.requires.size) in
    let small : c.args.at < 2 ^ 56 = omega (arith, c.requires.near, c.in_ok-len.ensures.len.1, c.in_ok-len.ensures.len.2) in
    let one = after_apart m c.args.disk.now magic c.args.body.now bodies c.args.end c.args.at first fits long c.requires.behind.0 c.requires.behind.1 c.requires.near c.set_apart.new.disk (c.set_apart.ensures.any_moment first.rest.tells first.rest.settled) in
    let told = c.set_apart.ensures.kept.tells ∙ first.rest.tells in
    let apart = c.in_ok-len.ensures.done first.rest.tells first.rest.settled in
    let two = after_mark m c.args.disk.now magic c.args.body.now bodies c.args.end c.args.at first fits long c.requires.behind.0 c.requires.behind.1 c.requires.near small c.set_apart.new.disk c.write_byte.new.disk one apart.0 (c.write_byte.ensures.any_moment told apart.1) in
    let told_2 = c.write_byte.ensures.kept.tells ∙ told in
    let mark = c.in_ok-write_byte.ensures.done told in
    let seen : m.seen c.write_byte.new.disk ≡ marked (set_apart c.args.at c.args.body.now (m.seen c.args.disk.now)) = mark.0 ∙ ap (λ (s : List ℕ). marked s) apart.0 in
    let row = row_there m c.args.disk.now magic c.args.body.now bodies c.args.end c.args.at first fits long c.requires.behind.0 c.requires.behind.1 c.requires.near small c.write_byte.new.disk seen in
    after_settle m c.args.disk.now magic c.args.body.now bodies c.args.end c.args.at first fits long c.requires.behind.0 c.requires.behind.1 c.requires.near small c.write_byte.new.disk c.settle.new.disk two seen
    (c.settle.ensures.any_moment magic (c.args.body.now ∷ []) told_2 mark.1 (first.second ∙ sym c.requires.second) row)

pub returns-clause-done : goal.returns-clause-done
returns-clause-done g c = λ magic bodies first.
    let m = g.D.Disk.model in
    let long : length (m.seen c.args.disk.now) ≡ c.args.end = sym (g.met.D.Disk.has_length c.args.disk.now first.rest.tells) ∙ c.requires.len in
    let fits : IsRecordLength c.args.body.now = omega (arith, c.requires.size) in
    let small : c.args.at < 2 ^ 56 = omega (arith, c.requires.near, c.in_ok-len.ensures.len.1, c.in_ok-len.ensures.len.2) in
    let told = c.set_apart.ensures.kept.tells ∙ first.rest.tells in
    let apart = c.in_ok-len.ensures.done first.rest.tells first.rest.settled in
    let told_2 = c.write_byte.ensures.kept.tells ∙ told in
    let mark = c.in_ok-write_byte.ensures.done told in
    let seen : m.seen c.write_byte.new.disk ≡ marked (set_apart c.args.at c.args.body.now (m.seen c.args.disk.now)) = mark.0 ∙ ap (λ (s : List ℕ). marked s) apart.0 in
    let row = row_there m c.args.disk.now magic c.args.body.now bodies c.args.end c.args.at first fits long c.requires.behind.0 c.requires.behind.1 c.requires.near small c.write_byte.new.disk seen in
    subst (λ (f : Form). IsSettled m magic f c.settle.new.disk (c.args.body.now ∷ [])) (c.in_ok-settle.ensures.form ∙ ap (λ (v : ℕ). ended_form v (record { selector = 4; start = c.args.at; version = 49 })) c.requires.second) (c.in_ok-settle.ensures.done magic (c.args.body.now ∷ []) told_2 mark.1 (first.second ∙ sym c.requires.second) row)
