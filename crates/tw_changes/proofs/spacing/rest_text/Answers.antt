use Rattle.std.proofs.Common.{◌≡◌, ◌∙◌, ◌-◌, ◌≤◌, ap, sym, map, take, drop, length, length-drop, arith, string_bytes, String, Global, List, Result, Ok, Err, IfOk}
use Rattle.std.proofs.lemmas.List.{drop-map, take_all}
use Rattle.tw_changes.specs.Spaced.{spaced, rest_text}
use Rattle.tw_changes.proofs.spacing.rest_text.Goals as goal

if_ok_map : {A E : Type 0} {P Q : A → Type 0} (r : Result A E) → ((a : A) → P a → Q a) → IfOk r P → IfOk r Q
if_ok_map (Ok a) f p = f a p
if_ok_map (Err e) f p = tt

pub returns : goal.returns
returns c =
    let words = c.line.inside.words.items in
    let from = c.line.inside.rest_from in
    let whole = c.deref.result.now in
    let within : length (drop from whole) ≤ length whole - from = omega (arith, length-drop from whole) in
    let rest : spaced (map string_bytes (take (length whole - from) (drop from whole))) ≡ rest_text c.args.line.now =
    ap (λ (ws : List (String Global)). spaced (map string_bytes ws)) (take_all (length whole - from) (drop from whole) within)
    ∙ ap (λ (ws : List (String Global)). spaced (map string_bytes (drop from ws))) c.deref.ensures.value
    ∙ ap spaced (sym (drop-map string_bytes from words)) ∙ ap rest_text c.line.view_is in
    if_ok_map c.spaced.result (λ text is. is ∙ rest) c.spaced.ensures
