use Rattle.std.specs.Prelude.{bit_or}
use Rattle.std.specs.Int.{from_be_bytes, w128}
use Rattle.std.proofs.Common.{◌≡◌, ◌≤◌, ℕ, length, take, drop, arith, ap, ◌∙◌}
use Rattle.std.proofs.lemmas.List.{take_all, length-drop}
use Rattle.tw_world.proofs.ids.IdWords.from_seed.Goals as goal

pub returns-clause-start : goal.returns-clause-start
returns-clause-start c = c.from_be_bytes.ensures ∙ ap (from_be_bytes w128) c.copy_from_slice.ensures.after

pub returns-clause-step : goal.returns-clause-step
returns-clause-step c =
    let rest = drop 16 c.args.seed in
    let short : length rest ≤ 16 = omega (arith, length-drop 16 c.args.seed) in
    let word : c.from_be_bytes-2.result ≡ from_be_bytes w128 (take 16 rest) = c.from_be_bytes-2.ensures ∙ ap (from_be_bytes w128) c.copy_from_slice-2.ensures.after in
    ap (λ (n : ℕ). bit_or n 1) (word ∙ ap (from_be_bytes w128) (take_all 16 rest short))
