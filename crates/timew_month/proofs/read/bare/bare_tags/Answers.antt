use Rattle.std.proofs.Common.{◌≡◌, ◌∷◌, [], List, ℕ, Option, Some, None, option_map, sym, ap, subst, ◌∙◌}
use Rattle.timew_month.specs.Exact.{AreTaken, AreWritten, IsFirstTag}
use Rattle.timew_month.proofs.BareTags.{only_tag, two_written, two_taken}
use Rattle.timew_month.proofs.read.bare.bare_tags.Goals as goal

pub returns-in_default-rest : goal.returns-in_default-rest
returns-in_default-rest c =
    let bytes = c.args.bytes.now in
    let tag = c.in-Some.first.now in
    let first : IsFirstTag tag None bytes = subst (λ (o : Option (List ℕ)). IsFirstTag tag o bytes) (ap (option_map (λ b. b.now)) c.in_default-rest.is) c.in-Some.ensures in
    let made : tag ∷ [] ≡ c.one.result = ap (λ (t : List ℕ). t ∷ []) (sym c.in_ok-first_text.ensures) ∙ sym c.one.ensures in
    subst (λ (ts : List (List ℕ)). AreWritten ts bytes) made (only_tag bytes tag first)

pub returns-in-None : goal.returns-in-None
returns-in-None c =
    let bytes = c.args.bytes.now in
    let tag = c.in-Some.first.now in
    let rest = c.in-Some-rest.rest.now in
    let next = c.in-Some-first_tag.second.now in
    let first : IsFirstTag tag (Some rest) bytes = subst (λ (o : Option (List ℕ)). IsFirstTag tag o bytes) (ap (option_map (λ b. b.now)) c.in-Some-rest.is) c.in-Some.ensures in
    let second : IsFirstTag next None rest = subst (λ (o : Option (List ℕ)). IsFirstTag next o rest) (ap (option_map (λ b. b.now)) c.in-None.is) c.in-Some-first_tag.ensures in
    let held = sym c.in_ok-first_text.ensures in
    let made : tag ∷ next ∷ [] ≡ c.two-tags.result = (λ i. held i ∷ sym c.in_ok-from_str.ensures i ∷ []) ∙ sym c.two-tags.ensures in
    subst (λ (ts : List (List ℕ)). AreWritten ts bytes) made (two_written bytes tag rest next first second (sym c.is_before.ensures ∙ c.if-not-is_before.false))

pub returns-in-Some-rest-2 : goal.returns-in-Some-rest-2
returns-in-Some-rest-2 c =
    let bytes = c.args.bytes.now in
    let tag = c.in-Some.first.now in
    let rest = c.in-Some-rest.rest.now in
    let next = c.in-Some-first_tag.second.now in
    let more = c.in-Some-rest-2.rest.now in
    let first : IsFirstTag tag (Some rest) bytes = subst (λ (o : Option (List ℕ)). IsFirstTag tag o bytes) (ap (option_map (λ b. b.now)) c.in-Some-rest.is) c.in-Some.ensures in
    let second : IsFirstTag next (Some more) rest = subst (λ (o : Option (List ℕ)). IsFirstTag next o rest) (ap (option_map (λ b. b.now)) c.in-Some-rest-2.is) c.in-Some-first_tag.ensures in
    let held = sym c.in_ok-first_text.ensures in
    let made : tag ∷ next ∷ [] ≡ c.two-tags.result = (λ i. held i ∷ sym c.in_ok-from_str.ensures i ∷ []) ∙ sym c.two-tags.ensures in
    c.more_tags.ensures bytes
    (subst (λ (ts : List (List ℕ)). AreTaken ts more bytes) made (two_taken bytes tag rest next more first second (sym c.is_before.ensures ∙ c.if-not-is_before.false)))
