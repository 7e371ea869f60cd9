use Rattle.std.proofs.Common.{true, sym, subst, ◌∙◌}
use Rattle.tw_terms.specs.Cuts.{parts}
use Rattle.tw_terms.specs.IdWords.{names_in, names_of, ranges_in}
use Rattle.tw_terms.specs.Tokens.{PushesNames}
use Rattle.tw_terms.proofs.Ranges.{all_ranges}
use Rattle.tw_terms.proofs.token.push_names.Goals as goal

pub returns : goal.returns
unfolding names_in
returns c =
    let ranges = parts 44 c.args.word.now in
    let old = c.args.tokens.now.items in
    let new = c.push_ranges.new.tokens.items in
    subst (λ o. PushesNames (names_of o (ranges_in ranges)) true old new) (sym c.in_default.is ∙ c.uuid_of_36.ensures)
    (all_ranges ranges old new (sym c.are_ranges.ensures ∙ c.if-not-are_ranges.false) c.in_ok-push_ranges.ensures)
