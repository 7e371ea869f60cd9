use Rattle.std.proofs.Common.{◌∷◌, List, ℕ, take, sym, ◌∙◌, ap}
use Rattle.tw_journal.proofs.Created.{eight, magic_is}
use Rattle.tw_journal.proofs.form.text_of.Goals as goal

pub returns : goal.returns
returns c = ap (λ (l : List ℕ). take 11 (0 ∷ 0 ∷ 0 ∷ 8 ∷ l)) (eight c.args.magic.now c.told-magic) ∙ ap (λ (l : List ℕ). take 11 l) (sym (magic_is c.args.magic.now c.told-magic))
