use Rattle.std.proofs.Common.{◌-◌, ◌∙◌, ap, not, length, arith}
use Rattle.timew_bridge.proofs.Ends.{front_closed, rows_closed}
use Rattle.timew_bridge.proofs.driving.closed_of.Goals as goal

pub returns-in-len1-up-clause-closed : goal.returns-in-len1-up-clause-closed
returns-in-len1-up-clause-closed c = front_closed (length c.args.rows.now - 1) c.args.rows.now (omega (arith, c.in-len1-up.len_at_least)) c.requires

pub returns-in_default-2-clause-closed : goal.returns-in_default-2-clause-closed
returns-in_default-2-clause-closed c = rows_closed (length c.args.rows.now - 1) c.args.rows.now c.last-item.result (omega (arith, c.in-len1-up.len_at_least)) c.last-item.is c.requires (c.is_none.ensures ∙ ap not c.if-is_none.false)
