use Rattle.std.proofs.Common.{◌≡◌, ℕ, ◌+◌, ◌<◌, List, ◌∷◌, length, drop, get_or, sym, ap, ◌∙◌, arith}
use Rattle.std.proofs.lemmas.List.{drop_more}
use Rattle.tw_world.specs.Folder.{add_name}
use Rattle.timew_month.specs.declared.write.month_texts.MonthText.{MonthText}
use Rattle.timew_month.specs.NamedFiles.{with_names}
use Rattle.timew_month.specs.MonthTexts.{texts_of}
use Rattle.timew_month.proofs.write.changes.all_names.Goals as goal

one_more : (texts : List MonthText) (i : ℕ) (text : MonthText) (tag : List ℕ) (names new total : List (List ℕ)) → i < length texts → text ≡ get_or texts i text → tag ≡ text.name → new ≡ add_name tag names
    → with_names (texts_of (drop i texts)) names ≡ total → with_names (texts_of (drop (i + 1) texts)) new ≡ total
one_more texts i text tag names new total lt is same more so_far =
    ap (λ (l : List (List ℕ)). with_names (texts_of (drop (i + 1) texts)) l) (more ∙ ap (λ (n : List ℕ). add_name n names) same)
    ∙ ap (λ (l : List MonthText). with_names (texts_of l) names) (ap (λ (t : MonthText). t ∷ drop (i + 1) texts) is ∙ sym (drop_more texts i text lt))
    ∙ so_far

pub loop-text-preserved : goal.loop-text-preserved
loop-text-preserved c =
    let texts = c.args.texts.now.items in
    let i = c.loop-text.text-index in
    let text = c.text-item.result in
    let here : text ≡ get_or texts i text = c.text-item.is ∙ ap (λ (l : List MonthText). get_or l i text) c.deref-text-items.ensures.value in
    one_more texts i text c.as_str.result.now c.loop-text.names.items _ _ (omega arith) here c.as_str.ensures c.in_ok-add_tag.ensures c.loop-text.invariant
