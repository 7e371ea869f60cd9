use Rattle.std.proofs.Common.{◌≡◌, ◌∙◌, ◌++◌, length, drop, true, false, refl, sym, ap, subst}
use Rattle.std.specs.Prelude.{nat_eq}
use Rattle.std.specs.List.{starts_with}
use Rattle.std.proofs.lemmas.List.{take_rest}
use Rattle.tw_world.proofs.Moments.{untouched}
use Rattle.tw_journal.specs.Journal.{HasBody}
use Rattle.tw_server.specs.Faults.{read_in_answer}
use Rattle.tw_server.specs.Server.{AnswerRefused}
use Rattle.tw_server.proofs.Refusals.{read_refused, other_record, front_and_rest, from_fault}
use Rattle.tw_server.proofs.server.Server.rest.Goals as goal

pub returns-in_err-body-clause-refused : goal.returns-in_err-body-clause-refused
returns-in_err-body-clause-refused g c known =
    let m = g.D.Disk.model in
    from_fault (AnswerRefused m c.args.self.now c.args.self.now c.args.disk.now c.body.new.disk) c.from_residual.result (read_in_answer c.in_err-body.field-0.0) c.from_residual.ensures.1
    (read_refused m c.args.self.now c.args.disk.now c.args.disk.now c.body.new.disk c.args.n c.args.front.now c.in_err-body.field-0.0 c.requires.open known.0 (untouched m g.met.D.Disk.only_now c.args.disk.now) c.in_err-body.ensures.refused c.in_err-body.ensures.damaged)

pub returns-in_err-offset-clause-refused : goal.returns-in_err-offset-clause-refused
returns-in_err-offset-clause-refused g c known =
    let m = g.D.Disk.model in
    from_fault (AnswerRefused m c.args.self.now c.args.self.now c.args.disk.now c.offset.new.disk) c.from_residual-in_err-offset.result (read_in_answer c.in_err-offset.field-0.0) c.from_residual-in_err-offset.ensures.1
    (read_refused m c.args.self.now c.args.disk.now c.body.new.disk c.offset.new.disk c.args.n c.args.front.now c.in_err-offset.field-0.0 c.requires.open known.0 c.in_ok-body.ensures.untouched c.in_err-offset.ensures.refused c.in_err-offset.ensures.damaged)

pub returns-then-not-starts_with-clause-refused : goal.returns-then-not-starts_with-clause-refused
returns-then-not-starts_with-clause-refused g c known =
    let front = c.args.front.now in
    let other : starts_with nat_eq c.in_ok-body.body.items front ≡ false =
    ap (λ b. starts_with nat_eq b front) (sym c.as_slice-bytes.ensures.value) ∙ sym c.starts_with.ensures.value ∙ c.if-not-starts_with.true in
    (refl, other_record g.D.Disk.model c.args.self.now c.args.disk.now c.body.new.disk c.args.n front c.in_ok-body.body.items c.in_ok-offset.offset known other c.in_ok-body.ensures.stands c.in_ok-body.ensures.body c.in_ok-body.ensures.untouched c.in_ok-offset.ensures.way)

pub returns-clause-rest : goal.returns-clause-rest
returns-clause-rest g c = λ magic bodies on.
    let front = c.args.front.now in
    let yes : starts_with nat_eq c.in_ok-body.body.items front ≡ true =
    ap (λ b. starts_with nat_eq b front) (sym c.as_slice-bytes.ensures.value) ∙ sym c.starts_with.ensures.value ∙ c.if-not-starts_with.false in
    let rest = c.in_ok-rest.ensures ∙ take_rest c.as_slice-bytes.result.now (length front) ∙ ap (drop (length front)) c.as_slice-bytes.ensures.value in
    sym (c.in_ok-body.ensures.body magic bodies on) ∙ front_and_rest c.in_ok-body.body.items front yes ∙ ap (λ l. front ++ l) (sym rest)

pub returns-clause-there : goal.returns-clause-there
returns-clause-there g c = λ tells.
    let front = c.args.front.now in
    let yes : starts_with nat_eq c.in_ok-body.body.items front ≡ true =
    ap (λ b. starts_with nat_eq b front) (sym c.as_slice-bytes.ensures.value) ∙ sym c.starts_with.ensures.value ∙ c.if-not-starts_with.false in
    let rest = c.in_ok-rest.ensures ∙ take_rest c.as_slice-bytes.result.now (length front) ∙ ap (drop (length front)) c.as_slice-bytes.ensures.value in
    subst (λ b. HasBody c.args.self.now.journal (g.D.Disk.model.seen c.args.disk.now) c.args.n b) (front_and_rest c.in_ok-body.body.items front yes ∙ ap (λ l. front ++ l) (sym rest)) (c.in_ok-body.ensures.stands tells)
