use Rattle.std.proofs.Common.{subst}
use Rattle.tw_replica.specs.Replica.{IsBadAt, IsRowTooLong, held_state}
use Rattle.tw_check.specs.Cause.{IsCause}
use Rattle.tw_check.proofs.Inside.{bad_is_inside}
use Rattle.tw_check.proofs.opening.tasks_damage.Goals as goal

pub returns-in_default-clause-damage : goal.returns-in_default-clause-damage
returns-in_default-clause-damage c = (held_state c.in_default.field-0, c.in_default.ensures.opens)

pub returns-in-Damaged-clause-damage : goal.returns-in-Damaged-clause-damage
returns-in-Damaged-clause-damage c = subst (IsCause c.args.file.now) c.in-Damaged.is c.in-Err.ensures.refused

pub returns-in-Damaged-clause-inside : goal.returns-in-Damaged-clause-inside
returns-in-Damaged-clause-inside c = bad_is_inside c.args.file.now c.in-Damaged.offset (subst (IsCause c.args.file.now) c.in-Damaged.is c.in-Err.ensures.refused)

pub returns-in-TooLong-clause-damage : goal.returns-in-TooLong-clause-damage
returns-in-TooLong-clause-damage c =
    let long : IsRowTooLong c.args.file.now c.in-TooLong.bytes = subst (IsCause c.args.file.now) c.in-TooLong.is c.in-Err.ensures.refused in
    (long.state, long.opens)
