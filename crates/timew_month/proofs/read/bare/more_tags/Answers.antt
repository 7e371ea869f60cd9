use Rattle.std.proofs.Common.{◌≡◌, ◌++◌, ◌∷◌, [], List, ℕ, Option, Some, None, option_map, sym, ap, subst, ◌∙◌}
use Rattle.timew_month.specs.Exact.{AreTaken, AreWritten, IsFirstTag}
use Rattle.timew_month.proofs.BareTags.{taken_more, taken_last, shorter}
use Rattle.timew_month.proofs.read.bare.more_tags.Goals as goal

pub loop-tag-smaller : goal.loop-tag-smaller
loop-tag-smaller c =
    let tag = c.in-Some.tag.now in
    let rest = c.loop-tag.rest.now in
    let more = c.in-Some-more.more.now in
    shorter rest tag more (subst (λ (o : Option (List ℕ)). IsFirstTag tag o rest) (ap (option_map (λ b. b.now)) c.in-Some-more.is) c.in-Some.ensures)

pub loop-tag-preserved : goal.loop-tag-preserved
loop-tag-preserved c = λ text taken.
    let tag = c.in-Some.tag.now in
    let tags = c.loop-tag.tags in
    let rest = c.loop-tag.rest.now in
    let more = c.in-Some-more.more.now in
    let here = c.loop-tag.invariant text taken in
    let first : IsFirstTag tag (Some more) rest = subst (λ (o : Option (List ℕ)). IsFirstTag tag o rest) (ap (option_map (λ b. b.now)) c.in-Some-more.is) c.in-Some.ensures in
    let pushed : tags ++ tag ∷ [] ≡ c.push.new.self = ap (λ (t : List ℕ). tags ++ t ∷ []) (sym c.in_ok-from_str.ensures) ∙ sym c.in_ok-push.ensures.ok in
    subst (λ (ts : List (List ℕ)). AreTaken ts more text) pushed (taken_more tags rest text tag more here first (c.is_behind.ensures here.rise c.if-not-is_behind.false))

pub returns-in_default-more : goal.returns-in_default-more
returns-in_default-more c = λ text taken.
    let tag = c.in-Some.tag.now in
    let tags = c.loop-tag.tags in
    let rest = c.loop-tag.rest.now in
    let here = c.loop-tag.invariant text taken in
    let first : IsFirstTag tag None rest = subst (λ (o : Option (List ℕ)). IsFirstTag tag o rest) (ap (option_map (λ b. b.now)) c.in_default-more.is) c.in-Some.ensures in
    let pushed : tags ++ tag ∷ [] ≡ c.push.new.self = ap (λ (t : List ℕ). tags ++ t ∷ []) (sym c.in_ok-from_str.ensures) ∙ sym c.in_ok-push.ensures.ok in
    subst (λ (ts : List (List ℕ)). AreWritten ts text) pushed (taken_last tags rest text tag here first (c.is_behind.ensures here.rise c.if-not-is_behind.false))
