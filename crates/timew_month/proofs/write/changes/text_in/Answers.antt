use Rattle.std.proofs.Common.{◌≡◌, ◌<◌, ◌+◌, ℕ, cond, List, [], ◌∷◌, ◌++◌, length, drop, get_or, sym, ap, ◌∙◌, append_assoc, arith}
use Rattle.std.proofs.lemmas.List.{drop_more}
use Rattle.tw_world.specs.Folder.{same_bytes}
use Rattle.timew_month.specs.declared.write.month_texts.MonthText.{MonthText}
use Rattle.timew_month.specs.NamedFiles.{text_in}
use Rattle.timew_month.specs.MonthTexts.{text_of, texts_of}
use Rattle.timew_month.proofs.write.changes.text_in.Goals as goal

one_more : (name : List ℕ) (texts : List MonthText) (i : ℕ) (text : MonthText) (out new total : List ℕ) → i < length texts → text ≡ get_or texts i text → new ≡ out ++ cond (same_bytes (text_of text).0 name) (text_of text).1 []
    → out ++ text_in (texts_of (drop i texts)) name ≡ total → new ++ text_in (texts_of (drop (i + 1) texts)) name ≡ total
one_more name texts i text out new total lt is more so_far =
    let rest = text_in (texts_of (drop (i + 1) texts)) name in
    ap (λ (l : List ℕ). l ++ rest) more
    ∙ append_assoc out (cond (same_bytes (text_of text).0 name) (text_of text).1 []) rest
    ∙ ap (λ (l : List MonthText). out ++ text_in (texts_of l) name) (ap (λ (t : MonthText). t ∷ drop (i + 1) texts) is ∙ sym (drop_more texts i text lt))
    ∙ so_far

pub loop-text-preserved : goal.loop-text-preserved
loop-text-preserved c =
    let texts = c.args.texts.now.items in
    let i = c.loop-text.text-index in
    let text = c.text-item.result in
    let here : text ≡ get_or texts i text = c.text-item.is ∙ ap (λ (l : List MonthText). get_or l i text) c.deref-text-items.ensures.value in
    one_more c.args.name.now texts i text c.loop-text.bytes.items _ _ (omega arith) here c.in_ok-put_text.ensures c.loop-text.invariant
