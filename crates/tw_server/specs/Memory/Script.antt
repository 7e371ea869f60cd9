-- The script of a link in memory.
use Rattle.std.specs.Prelude.{ℕ, ◌≤◌, nat_le, Bool, List, [], length, map, All, Option, Some, None}
use Rattle.std.specs.List.{slice_get, list_all}
use Rattle.tw_http.specs.Messages.{max_body}
use Rattle.tw_server.specs.declared.memory.script.LinkStep.{LinkStep}
use Rattle.tw_server.specs.declared.memory.script.Fate.{Fate}
use Rattle.tw_server.specs.declared.memory.script.Fate.TheVariants.{Deliver}

-- the segments that others add before an exchange
abbrev pub segments_of : LinkStep → List (List ℕ)
segments_of step = map (λ v. v.items) step.others.items

-- each segment fits a body
abbrev pub AllFit : List (List ℕ) → Type 0
AllFit segments = All (λ s. length s ≤ max_body) segments

abbrev pub OthersFit : List LinkStep → Type 0
OthersFit script = All (λ step. AllFit (segments_of step)) script

-- whether each segment of a step fits a body
abbrev pub step_fits : LinkStep → Bool
step_fits step = list_all (λ v. nat_le (length v.items) max_body) step.others.items

-- what the script says of the exchange with this number; after its end it is delivered, and there are no others
abbrev pub fate_in : Option LinkStep → Fate
fate_in None = Deliver
fate_in (Some step) = step.fate

abbrev pub others_in : Option LinkStep → List (List ℕ)
others_in None = []
others_in (Some step) = segments_of step

abbrev pub fate_at : List LinkStep → ℕ → Fate
fate_at script n = fate_in (slice_get script n)

abbrev pub others_at : List LinkStep → ℕ → List (List ℕ)
others_at script n = others_in (slice_get script n)
