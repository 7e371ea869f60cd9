-- A chain that is folded version by version.
use Rattle.std.proofs.Common.{◌≡◌, ◌⊎◌, ℕ, ◌+◌, inl, inr, length, List, [], ◌∷◌, ◌++◌, refl, sym, ap, subst, ◌∙◌, arith, length-append, append_assoc, ⊎_elim}
use Rattle.std.specs.Prelude.{Contains}
use Rattle.std.proofs.lemmas.List.{append-nil}
use Rattle.std.proofs.lemmas.List.Elements.{Contains-append_left, Contains-append_right, Contains-append_cases, Contains-push_cases}
use Rattle.std.specs.FinMap.{empty}
use Rattle.uuid.specs.Parts.{zero_bytes}
use Rattle.tw_model.specs.Ops.{apply_all}
use Rattle.tw_model.proofs.Ops.{apply_all-append}
use Rattle.tw_protocol.specs.Chain.{Version, last_from, latest, IsChain, IsCut, IsBetween, Grows}
use Rattle.tw_protocol.specs.Answer.{version, IsKnown}
use Rattle.tw_protocol.proofs.Chains.{row_is_split_once}
use Rattle.tw_path.specs.Fold.{IsFold}
use Rattle.tw_path.proofs.Reading.{reads-append, reads_last}
use Rattle.tw_sync.proofs.CursorInChain.{cut_grows, cut_before}
use Rattle.tw_audit.specs.declared.folding.Folded.{Folded}
use Rattle.tw_audit.specs.Folding.{AreOthers, IsOnTheWay, TakesVersion}

-- ---- what is known of a row of versions

others_on : (base h : List ℕ) (front : List Version) (v : Version) → AreOthers base h front → ¬ (last_from h front ≡ base) → AreOthers base h (front ++ v ∷ [])
others_on base h [] v others apart = (apart, tt)
others_on base h (x ∷ xs) v others apart = (others.0, others_on base x.id xs v others.1 apart)

none_there : (v : Version) → Contains [] v → ⊥
none_there v at = let lt = at.1 in omega (arith, lt)

inner_known : (v : Version) (vs : List Version) (w : Version) (id : List ℕ) → Contains (v ∷ vs) w → w.id ≡ id → IsKnown v.id vs id
inner_known v vs w id at same =
    let P = IsKnown v.id vs id in
    ⊎_elim {C = P}
    (λ first. ⊎_elim {C = P} (λ none. absurd (none_there w none)) (λ it. inl (ap (λ x. x.id) it ∙ same)) (Contains-push_cases [] v w first))
    (λ later. inr (w, later, same))
    (Contains-append_cases (v ∷ []) vs w at)

unknown : (base h : List ℕ) (front : List Version) → AreOthers base h front → ¬ (last_from h front ≡ base) → ¬ (IsKnown h front base)
unknown base h [] others apart (inl same) = apart same
unknown base h [] others apart (inr (w, at, same)) = none_there w at
unknown base h (x ∷ xs) others apart (inl same) = others.0 same
unknown base h (x ∷ xs) others apart (inr (w, at, same)) = unknown base x.id xs others.1 apart (inner_known x xs w base at same)

known_first : (h : List ℕ) (front back : List Version) (v : List ℕ) → last_from h front ≡ v → IsKnown h (front ++ back) v
known_first h [] back v e = inl e
known_first h (x ∷ xs) back v e = one_more (known_first x.id xs back v e)
  where
    one_more : IsKnown x.id (xs ++ back) v → IsKnown h (x ∷ (xs ++ back)) v
    one_more (inl same) = inr (x, (0, omega arith, refl), same)
    one_more (inr (w, at, same)) = inr (w, Contains-append_right (x ∷ []) (xs ++ back) w at, same)

cut_known : (chain : List Version) (v : List ℕ) (front back : List Version) → IsCut chain v front back → IsKnown zero_bytes chain v
cut_known chain v front back cut = subst (λ c. IsKnown zero_bytes c v) (sym cut.split) (known_first zero_bytes front back v cut.at)

pub known_grows : (old new : List Version) (v : List ℕ) → Grows old new → IsKnown zero_bytes old v → IsKnown zero_bytes new v
known_grows old new v g (inl same) = inl same
known_grows old new v g (inr (w, at, same)) = inr (w, subst (λ c. Contains c w) (sym g.joined) (Contains-append_left old g.more w at), same)

-- ---- on the way

pub on_the_way_at_nil : (chain : List Version) (base : List ℕ) (folded : Folded) → folded.at ≡ zero_bytes → folded.versions ≡ 0 → folded.tasks ≡ empty → IsOnTheWay chain base folded
on_the_way_at_nil chain base folded at none tasks = record {
  fold = record { front = []; back = chain; cut = record { split = refl; at = sym at }; ops = []; reads = refl; made = tasks };
  count = none;
  passed = tt;
}

-- one version more
pub on_the_way : (before after : List Version) (base id segment : List ℕ) (old new : Folded) → IsChain after → Grows before after → ¬ (old.at ≡ base) → IsOnTheWay before base old
    → IsBetween after old.at id (version id old.at segment ∷ []) → TakesVersion old new id segment → IsOnTheWay after base new
on_the_way before after base id segment old new whole grows apart way between takes =
    let v : Version = version id old.at segment in
    let front = way.fold.front in
    let same : front ≡ between.front =
    row_is_split_once after old.at front (way.fold.back ++ grows.more) between.front (v ∷ [] ++ between.back) whole
    (cut_grows before after old.at front way.fold.back way.fold.cut grows)
    (cut_before after old.at id (v ∷ []) between) in
    let long = length-append front (v ∷ []) in
    let counted = way.count in
    let one = takes.count in
    record {
      fold = record {
        front = front ++ v ∷ [];
        back = between.back;
        cut = record {
          split = between.split ∙ ap (λ x. (x ++ v ∷ []) ++ between.back) (sym same);
          at = ap (λ x. latest (x ++ v ∷ [])) same ∙ between.to ∙ sym takes.at;
        };
        ops = way.fold.ops ++ takes.ops;
        reads = reads-append front (v ∷ []) way.fold.ops takes.ops way.fold.reads (reads_last v takes.ops takes.reads);
        made = takes.tasks ∙ ap (λ w. apply_all w takes.ops) way.fold.made ∙ sym (apply_all-append empty way.fold.ops takes.ops);
      };
      count = omega (arith, long, counted, one);
      passed = others_on base zero_bytes front v way.passed (λ e. apart (sym way.fold.cut.at ∙ e));
    }

-- the chain ended, and the base did not come
pub base_unknown : (before at after : List Version) (base : List ℕ) (old : Folded) → IsChain after → Grows before at → Grows at after → ¬ (old.at ≡ base) → IsOnTheWay before base old
    → latest at ≡ old.at → ¬ (IsKnown zero_bytes before base)
base_unknown before at after base old whole first last apart way end = λ known.
    let front = way.fold.front in
    let here = cut_grows before at old.at front way.fold.back way.fold.cut first in
    let there : IsCut at old.at at [] = record { split = sym (append-nil at); at = end } in
    let same : front ≡ at = row_is_split_once after old.at front ((way.fold.back ++ first.more) ++ last.more) at ([] ++ last.more) whole
    (cut_grows at after old.at front (way.fold.back ++ first.more) here last) (cut_grows at after old.at at [] there last) in
    unknown base zero_bytes front way.passed (λ e. apart (sym way.fold.cut.at ∙ e))
    (subst (λ c. IsKnown zero_bytes c base) (sym same) (known_grows before at base first known))

-- what was folded so far is known
pub way_is_known : (before at : List Version) (base : List ℕ) (old : Folded) → Grows before at → IsOnTheWay before base old → IsKnown zero_bytes at old.at
way_is_known before at base old grows way = known_grows before at old.at grows (cut_known before old.at way.fold.front way.fold.back way.fold.cut)
