use Rattle.std.proofs.Common.{◌≡◌, drop}
use Rattle.tw.specs.Asked.{client_of}
use Rattle.tw.proofs.asked.client_of.Given as goal

abbrev pub invariant-loop-at : goal.invariant-loop-at
invariant-loop-at l = client_of (drop l.at l.front) ≡ client_of l.front
