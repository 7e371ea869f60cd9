use Rattle.std.proofs.Common.{◌≡◌, map, take}
use Rattle.tw_server.specs.Memory.Holding.{after_others}
use Rattle.tw_server.specs.Memory.Server.{holding_of}
use Rattle.tw_server.proofs.memory.script.add_others.Given as goal

abbrev pub invariant-loop-segment : goal.invariant-loop-segment
invariant-loop-segment l = holding_of l.server ≡ after_others l.client (holding_of l.initial.server) (take l.segment-index (map (λ v. v.items) l.segments.items))
