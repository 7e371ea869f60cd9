use Rattle.std.proofs.Common.{◌≡◌, ◌∷◌, [], ◌++◌, ◌+◌, ◌≤◌, List, ℕ, length, get_or, refl, arith, ◌∙◌, ap}
use Rattle.tw_world.specs.Disk.{overwritten}
use Rattle.tw_journal.proofs.Between.{head_run, body_run, tail_run, stable_run, three_parts}
use Rattle.tw_journal.proofs.checkpoint.write_record.Goals as goal

pub returns-in_err-write_at-clause-any_moment : goal.returns-in_err-write_at-clause-any_moment
returns-in_err-write_at-clause-any_moment g c = λ tells settled.
    head_run g.D.Disk.model g.met.D.Disk.counts_now g.met.D.Disk.only_now c.args.disk.now c.args.at _ c.args.body.now c.args.tail.now tells settled refl c.write_at.new.self c.write_at.ensures.steps

pub returns-in_err-write_at-2-clause-any_moment : goal.returns-in_err-write_at-2-clause-any_moment
returns-in_err-write_at-2-clause-any_moment g c = λ tells settled.
    body_run g.D.Disk.model g.met.D.Disk.counts_now g.met.D.Disk.only_now c.args.disk.now c.args.at _ c.args.body.now c.args.tail.now tells settled refl c.write_at.new.self c.write_at-2.new.self c.write_at.ensures.steps c.write_at-2.ensures.steps

pub returns-in_err-write_at-3-clause-any_moment : goal.returns-in_err-write_at-3-clause-any_moment
returns-in_err-write_at-3-clause-any_moment g c = λ tells settled.
    tail_run g.D.Disk.model g.met.D.Disk.counts_now g.met.D.Disk.only_now c.args.disk.now c.args.at _ c.args.body.now c.args.tail.now tells settled refl c.write_at.new.self c.write_at-2.new.self c.write_at-3.new.self c.write_at.ensures.steps c.write_at-2.ensures.steps c.write_at-3.ensures.steps

pub returns-in_err-sync-clause-any_moment : goal.returns-in_err-sync-clause-any_moment
returns-in_err-sync-clause-any_moment g c = λ tells settled.
    stable_run g.D.Disk.model g.met.D.Disk.counts_now g.met.D.Disk.only_now c.args.disk.now c.args.at _ c.args.body.now c.args.tail.now tells settled refl c.write_at.new.self c.write_at-2.new.self c.write_at-3.new.self c.sync.new.self c.write_at.ensures.steps c.write_at-2.ensures.steps c.write_at-3.ensures.steps c.sync.ensures.steps

pub returns-clause-any_moment : goal.returns-clause-any_moment
returns-clause-any_moment g c = λ tells settled.
    stable_run g.D.Disk.model g.met.D.Disk.counts_now g.met.D.Disk.only_now c.args.disk.now c.args.at _ c.args.body.now c.args.tail.now tells settled refl c.write_at.new.self c.write_at-2.new.self c.write_at-3.new.self c.sync.new.self c.write_at.ensures.steps c.write_at-2.ensures.steps c.write_at-3.ensures.steps c.sync.ensures.steps

pub returns-clause-done : goal.returns-clause-done
returns-clause-done g c = λ tells.
    let m = g.D.Disk.model in
    let told = c.write_at.ensures.steps.tells ∙ tells in
    let told_2 = c.write_at-2.ensures.steps.tells ∙ told in
    let told_3 = c.write_at-3.ensures.steps.tells ∙ told_2 in
    let s = m.seen c.args.disk.now in
    let inside : c.args.at + 5 + length c.args.body.now + length c.args.tail.now ≤ length s = omega (arith, c.requires.inside, g.met.D.Disk.has_length c.args.disk.now tells) in
    let size = c.to_be_bytes-size.result in
    let head_of : List ℕ → List ℕ = λ l. 1 ∷ get_or l 0 0 ∷ get_or l 1 0 ∷ get_or l 2 0 ∷ get_or l 3 0 ∷ [] in
    let seen : m.seen c.sync.new.self ≡ overwritten c.args.at ((head_of size ++ c.args.body.now) ++ c.args.tail.now) s =
    c.sync.ensures.seen told_3
    ∙ c.in_ok-write_at-3.ensures.written told_2
    ∙ ap (λ (l : List ℕ). overwritten (c.args.at + 5 + length c.args.body.now) c.args.tail.now l) (c.in_ok-write_at-2.ensures.written told ∙ ap (λ (l : List ℕ). overwritten (c.args.at + 5) c.args.body.now l) (c.in_ok-write_at.ensures.written tells))
    ∙ three_parts c.args.at (head_of size) c.args.body.now c.args.tail.now s refl inside in
    (seen ∙ ap (λ (l : List ℕ). overwritten c.args.at ((head_of l ++ c.args.body.now) ++ c.args.tail.now) s) c.to_be_bytes-size.ensures, c.in_ok-sync.ensures.settled told_3)
