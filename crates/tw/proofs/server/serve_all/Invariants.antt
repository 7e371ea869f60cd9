use Rattle.std.proofs.Common.{◌≡◌, false}
use Rattle.tw_server.specs.Server.{is_closed, server_end}
use Rattle.tw.proofs.server.serve_all.Given as goal

abbrev pub invariant-loop : goal.invariant-loop
invariant-loop g l = is_closed l.server ≡ false → g.D.Disk.model.len l.disk ≡ server_end l.server
