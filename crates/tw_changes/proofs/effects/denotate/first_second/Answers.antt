use Rattle.std.proofs.Common.{◌≡◌, ◌∙◌, ◌+◌, ◌<◌, ◌≤◌, ap, sym, drop, get_or, List, ℕ, Bool, Option, [], arith}
use Rattle.std.specs.FinMap.{keys, values, entries, len}
use Rattle.tw_model.specs.Ops.{TaskValue}
use Rattle.tw_model.proofs.Sorted.{entry_at, entries_end}
use Rattle.tw_changes.specs.Effects.Denotate.{second_of, earlier, first_among}
use Rattle.tw_changes.proofs.effects.denotate.first_second.Goals as goal

-- one more property
one_more : (whole : Bool) (text : List ℕ) (task : TaskValue) (n : ℕ) (first : Option ℕ) (name there : List ℕ) → n < len task → name ≡ get_or (keys task) n [] → there ≡ get_or (values task) n []
    → first_among whole text first (drop n (entries task)) ≡ first_among whole text (earlier first (second_of whole text (name, there))) (drop (n + 1) (entries task))
one_more whole text task n first name there within key value =
    ap (first_among whole text first) (entry_at task n [] within)
    ∙ (λ i. first_among whole text (earlier first (second_of whole text (sym key i, sym value i))) (drop (n + 1) (entries task)))

pub loop-n-preserved : goal.loop-n-preserved
loop-n-preserved c =
    let task : TaskValue = c.args.task.now in
    let within : c.loop-n.n < len task = omega arith in
    let earliest : c.earlier-first.result ≡ earlier c.loop-n.first (second_of c.args.whole c.args.text.now (c.key.result.now, c.value.result.now)) =
    c.earlier-first.ensures ∙ ap (earlier c.loop-n.first) c.second_of.ensures in
    ap (λ (first : Option ℕ). first_among c.args.whole c.args.text.now first (drop (c.loop-n.n + 1) (entries task))) earliest
    ∙ sym (one_more c.args.whole c.args.text.now task c.loop-n.n c.loop-n.first c.key.result.now c.value.result.now within c.key.ensures c.value.ensures) ∙ c.loop-n.invariant

pub returns : goal.returns
returns c =
    let task : TaskValue = c.args.task.now in
    let all : len task ≤ c.loop-n.n = omega arith in
    sym (ap (first_among c.args.whole c.args.text.now c.loop-n.first) (entries_end task c.loop-n.n all)) ∙ c.loop-n.invariant
