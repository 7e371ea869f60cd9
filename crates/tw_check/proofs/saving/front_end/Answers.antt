use Rattle.std.proofs.Common.{◌≡◌, ◌≤◌, ◌<◌, IfSome, Option, ℕ, length, take, subst, arith}
use Rattle.std.proofs.lemmas.List.{length-take}
use Rattle.tw_check.specs.Kinds.{IsBadIn, IsDamage}
use Rattle.tw_check.proofs.Cutting.{cut_at}
use Rattle.tw_check.proofs.saving.front_end.Goals as goal

pub returns-in-None-clause-front : goal.returns-in-None-clause-front
returns-in-None-clause-front c =
    let opens = subst (IsDamage c.args.kind (take c.cuts.end c.args.file.now)) c.in-None.is c.in_ok-damage.ensures.damage in
    record { times = c.cuts.invariant.1.times; cuts = c.cuts.invariant.1.cuts; opens = opens }

pub cuts-preserved : goal.cuts-preserved
cuts-preserved c =
    let front = take c.cuts.end c.args.file.now in
    let bad : IsBadIn c.args.kind front c.in-Some.offset = subst (IsDamage c.args.kind front) c.in-Some.is c.in_ok-damage.ensures.damage in
    let inside : c.in-Some.offset < length front = subst (λ (o : Option ℕ). IfSome o (λ offset. offset < length front)) c.in-Some.is c.in_ok-damage.ensures.inside in
    let within : c.in-Some.offset ≤ c.cuts.end = omega (arith, inside, length-take c.cuts.end c.args.file.now) in
    (omega (arith, within, c.cuts.invariant.0), cut_at c.args.kind c.args.file.now c.cuts.end c.in-Some.offset c.cuts.invariant.1 within bad)
