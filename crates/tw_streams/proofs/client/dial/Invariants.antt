use Rattle.std.proofs.Common.{◌≡◌, ◌⊎◌, ℕ, []}
use Rattle.tw_streams.proofs.client.dial.Given as goal

abbrev pub invariant-loop-address : goal.invariant-loop-address
invariant-loop-address g l = ((n : ℕ) → g.D.Dialer.has_opened l.fn.dialer n → g.D.Dialer.has_opened l.dialer n) × ((l.yielded ≡ []) ⊎ g.D.Dialer.may_fail)
