use Rattle.std.proofs.Common.{ap, sym, ◌∙◌}
use Rattle.tw_time.proofs.ShownFacts.{clock_shown}
use Rattle.tw_time.proofs.clock.clock_of.Goals as goal

pub returns : goal.returns
returns c =
    let same = c.to_plain-shown.ensures in
    let parts = clock_shown _ _ _ c.shown_at.ensures.shows in
    let hour = ap (λ d. d.time.hour) same ∙ sym parts.0 in
    let minute = ap (λ d. d.time.minute) same ∙ sym parts.1 in
    let second = ap (λ d. d.time.second) same ∙ sym parts.2 in
    λ i. record { hour = hour i; minute = minute i; second = second i }
