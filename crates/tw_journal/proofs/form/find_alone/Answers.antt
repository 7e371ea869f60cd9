use Rattle.std.specs.Prelude.{true, false}
use Rattle.std.proofs.Common.{◌≡◌, ◌∙◌, List, ℕ, drop, sym, ap, arith}
use Rattle.std.proofs.lemmas.Bool.{true≢false}
use Rattle.tw_journal.specs.Form.{is_alone}
use Rattle.tw_journal.proofs.Forms.{alone_long}
use Rattle.tw_journal.proofs.FormFront.{none_apart, one_apart}
use Rattle.tw_journal.proofs.form.find_alone.Goals as goal

pub returns-then-at-lt-FRONT-clause-start : goal.returns-then-at-lt-FRONT-clause-start
returns-then-at-lt-FRONT-clause-start g c = λ tells. none_apart c.in_ok-at.at (g.D.Disk.model.seen c.args.disk.now) (c.in_ok-at.ensures.last tells) (λ low alone. omega (arith, low, c.if-at-lt-FRONT.true))

pub returns-then-len-at-clause-start : goal.returns-then-len-at-clause-start
returns-then-len-at-clause-start g c = λ tells.
    let s = g.D.Disk.model.seen c.args.disk.now in
    none_apart c.in_ok-at.at s (c.in_ok-at.ensures.last tells)
    (λ low alone. omega (arith, alone_long c.in_ok-at.at s alone, g.met.D.Disk.has_length c.args.disk.now tells, c.requires.len, c.requires.long, c.if-len-at.true))

pub returns-then-alone-clause-start : goal.returns-then-alone-clause-start
returns-then-alone-clause-start g c = λ tells.
    let s = g.D.Disk.model.seen c.args.disk.now in
    let reads = c.read_last.ensures.untouched in
    let alone : true ≡ is_alone (drop c.in_ok-at.at s) = sym c.if-alone.true ∙ c.in_ok-alone.ensures.alone (reads.kept.tells ∙ tells) ∙ ap (λ (f : List ℕ). is_alone (drop c.in_ok-at.at f)) (reads.seen tells) in
    one_apart c.in_ok-at.at s (c.in_ok-at.ensures.last tells) c.if-at-lt-FRONT.false (sym alone)

pub returns-clause-start : goal.returns-clause-start
returns-clause-start g c = λ tells.
    let s = g.D.Disk.model.seen c.args.disk.now in
    let reads = c.read_last.ensures.untouched in
    let alone : false ≡ is_alone (drop c.in_ok-at.at s) = sym c.if-alone.false ∙ c.in_ok-alone.ensures.alone (reads.kept.tells ∙ tells) ∙ ap (λ (f : List ℕ). is_alone (drop c.in_ok-at.at f)) (reads.seen tells) in
    none_apart c.in_ok-at.at s (c.in_ok-at.ensures.last tells) (λ low is. true≢false (sym is ∙ sym alone))
