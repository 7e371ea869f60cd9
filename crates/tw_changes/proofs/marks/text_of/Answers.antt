use Rattle.std.proofs.Common.{◌≡◌, ◌∙◌, ◌<◌, ◌≤◌, ap, refl, subst, get_or, length}
use lib.Utf8.{encode, encodes}
use Rattle.tw_changes.proofs.Gathered.{one_gathered, all_gathered}
use Rattle.tw_changes.proofs.marks.text_of.Goals as goal

pub loop-c-preserved : goal.loop-c-preserved
loop-c-preserved c =
    let i = c.loop-c.c-index in
    let same = c.deref-c-items.ensures.value in
    one_gathered encodes encode (λ x xs. refl) c.args.all.now.items i c.c-item.result _ _ (encodes c.args.all.now.items)
    (subst (λ xs. i < length xs) same c.loop-c-test.true) (c.c-item.is ∙ ap (λ xs. get_or xs i c.c-item.result) same) c.in_ok-push.ensures.bytes c.loop-c.invariant

pub returns : goal.returns
returns c =
    all_gathered encodes encode (λ x xs. refl) refl c.args.all.now.items c.loop-c.c-index _ (encodes c.args.all.now.items)
    (subst (λ xs. length xs ≤ c.loop-c.c-index) c.deref-c-items.ensures.value c.loop-c-test.false) c.loop-c.invariant
