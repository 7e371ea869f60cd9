use Rattle.std.proofs.Common.{◌+◌, get_or, drop, option_and_then, sym, ap, ◌∙◌, arith, refl}
use Rattle.tw_time.specs.declared.form.Parts.{Parts}
use Rattle.tw_time.specs.Forms.{filled_after, no_parts}
use Rattle.tw_time.proofs.FormFacts.{filled_after-length, filled_after-more, filled_after-end}
use Rattle.tw_time.proofs.form.filled.Goals as goal

pub returns-then-form-text : goal.returns-then-form-text
returns-then-form-text c = sym (filled_after-length c.args.form.now c.args.text.now no_parts (λ e. omega (arith, e)))

pub returns-in_default : goal.returns-in_default
returns-in_default c =
    let form = c.args.form.now in
    let text = c.args.text.now in
    let i = c.loop-i.i in
    let more = filled_after-more form text i (get_or form i 0) (get_or text i 0) c.loop-i.parts (omega arith) (omega arith) refl refl in
    ap (option_and_then (λ (p : Parts). filled_after p (drop (i + 1) form) (drop (i + 1) text))) c.in_default.ensures ∙ sym more ∙ c.loop-i.invariant

pub loop-i-preserved : goal.loop-i-preserved
loop-i-preserved c =
    let form = c.args.form.now in
    let text = c.args.text.now in
    let i = c.loop-i.i in
    let more = filled_after-more form text i (get_or form i 0) (get_or text i 0) c.loop-i.parts (omega arith) (omega arith) refl refl in
    ap (option_and_then (λ (p : Parts). filled_after p (drop (i + 1) form) (drop (i + 1) text))) c.in-Some.ensures ∙ sym more ∙ c.loop-i.invariant

pub returns : goal.returns
returns c =
    sym (filled_after-end c.args.form.now c.args.text.now c.loop-i.i c.loop-i.parts (omega arith) (omega arith)) ∙ c.loop-i.invariant
