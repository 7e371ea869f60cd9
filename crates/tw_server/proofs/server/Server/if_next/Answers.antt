use Rattle.std.proofs.Common.{ap, if◌then◌else◌, Some, None}
use Rattle.tw_server.proofs.server.Server.if_next.Goals as goal

pub returns-then-may_follow : goal.returns-then-may_follow
returns-then-may_follow c log knows = ap (λ t. if t then Some c.args.entry else None) (c.if-may_follow.ensures log knows)

pub returns-else-may_follow : goal.returns-else-may_follow
returns-else-may_follow c log knows = ap (λ t. if t then Some c.args.entry else None) (c.if-may_follow.ensures log knows)
