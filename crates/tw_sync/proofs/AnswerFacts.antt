-- What the answers of a server say of its chain.
use Rattle.std.proofs.Common.{◌≡◌, ℕ, Bool, true, false, cond, List, [], ◌∷◌, ◌++◌, refl, sym, ap, ◌∙◌}
use Rattle.uuid.specs.Parts.{zero_bytes}
use Rattle.tw_protocol.specs.Chain.{Version, IsChain, IsRow, IsBetween, same_id, has_id, last_from, latest}
use Rattle.tw_protocol.specs.Answer as protocol
use Rattle.tw_protocol.specs.Answer.{version, accepts, answer, child_behind, IsKnown, FindsChild}
use Rattle.tw_protocol.specs.Answer.Ask.{Add}
use Rattle.tw_protocol.specs.Answer.Finding.{Added, Conflict, Found, UpToDate, Gone, Taken}
use Rattle.tw_protocol.proofs.Chains.{same_id_exact, last_from-append, row_is_split_once}
use Rattle.tw_protocol.proofs.Telling.{child_is_found}
use Rattle.tw_sync.proofs.BadReplies.{apart}

-- ---- get-child-version

-- the version stands behind these, whose last is the parent
record FoundIn (h : List ℕ) (vs : List Version) (parent : List ℕ) (v : Version) : Type 0 where
  front : List Version
  back : List Version
  split : vs ≡ (front ++ v ∷ []) ++ back
  from : last_from h front ≡ parent
  named : v.parent ≡ parent

not_at_end : (t : Bool) (v : Version) → cond t UpToDate Gone ≡ Found v → ⊥
not_at_end true v e = cc
not_at_end false v e = cc

found_same : {v w : Version} → Found v ≡ Found w → v ≡ w
found_same e = cc

found_in : (h : List ℕ) (vs : List Version) (parent : List ℕ) (v : Version) → IsRow h vs → child_behind parent h vs ≡ Found v → FoundIn h vs parent v
found_in h [] parent v row e = absurd (not_at_end (same_id h parent) v e)
found_in h (x ∷ xs) parent v row e =
    elim (same_id h parent) as (λ t. same_id h parent ≡ t → cond t (Found x) (child_behind parent x.id xs) ≡ Found v → FoundIn h (x ∷ xs) parent v) [
      | true ↦ λ same f. (let one : x ≡ v = found_same f in
          record { front = []; back = xs; split = ap (λ y. y ∷ xs) one; from = same_id_exact h parent same; named = ap (λ (y : Version). y.parent) (sym one) ∙ row.0 ∙ same_id_exact h parent same })
      | false ↦ λ same f. (let rest = found_in x.id xs parent v row.1 f in
          record { front = x ∷ rest.front; back = rest.back; split = ap (λ ys. x ∷ ys) rest.split; from = rest.from; named = rest.named })
    ] refl e

-- what each answer to get-child-version says of the chain
abbrev pub ChildFact : List Version → List ℕ → protocol.Finding → Type 0
ChildFact at parent (Added id) = ⊥
ChildFact at parent (Conflict id) = ⊥
ChildFact at parent (Found v) = (v.parent ≡ parent) × ¬ (v.id ≡ zero_bytes) × IsBetween at parent v.id (v ∷ [])
ChildFact at parent UpToDate = latest at ≡ parent
ChildFact at parent Gone = ¬ (IsKnown zero_bytes at parent)
ChildFact at parent Taken = ⊥

not_none : (front : List Version) (v : Version) → [] ≡ front ++ v ∷ [] → ⊥
not_none [] v e = cc
not_none (x ∷ xs) v e = cc

behind : (at : List Version) (parent : List ℕ) (v : Version) → FoundIn zero_bytes at parent v → IsBetween at parent v.id (v ∷ [])
behind at parent v f = record { front = f.front; back = f.back; split = f.split; from = f.from; to = last_from-append zero_bytes f.front (v ∷ []) }

-- no version of a chain is nil
not_nil : (at : List Version) (parent : List ℕ) (v : Version) → IsChain at → IsBetween at parent v.id (v ∷ []) → ¬ (v.id ≡ zero_bytes)
not_nil at parent v whole b nil =
    not_none b.front v (row_is_split_once at zero_bytes [] at (b.front ++ v ∷ []) b.back whole (record { split = refl; at = refl }) (record { split = b.split; at = b.to ∙ nil }))

child_fact_of : (at : List Version) (parent : List ℕ) (t : protocol.Finding) → IsChain at → child_behind parent zero_bytes at ≡ t → FindsChild zero_bytes at parent t → ChildFact at parent t
child_fact_of at parent (Added id) whole e is = is
child_fact_of at parent (Conflict id) whole e is = is
child_fact_of at parent (Found v) whole e is =
    let there = behind at parent v (found_in zero_bytes at parent v whole.row e) in
    (is.0, not_nil at parent v whole there, there)
child_fact_of at parent UpToDate whole e is = is
child_fact_of at parent Gone whole e is = is
child_fact_of at parent Taken whole e is = is

pub child_fact : (at : List Version) (parent : List ℕ) → IsChain at → ChildFact at parent (child_behind parent zero_bytes at)
child_fact at parent whole = child_fact_of at parent (child_behind parent zero_bytes at) whole refl (child_is_found at parent whole)

-- ---- add-version

-- what each answer to add-version says of the chain, and of the versions that it adds
abbrev pub AddFact : List Version → (parent segment id : List ℕ) → List Version → protocol.Finding → Type 0
AddFact at parent segment id added (Added new) = (new ≡ id) × (added ≡ version id parent segment ∷ []) × (latest at ≡ parent)
AddFact at parent segment id added (Conflict last) = (added ≡ []) × (latest at ≡ last) × ¬ (last ≡ parent)
AddFact at parent segment id added (Found v) = ⊥
AddFact at parent segment id added UpToDate = ⊥
AddFact at parent segment id added Gone = ⊥
AddFact at parent segment id added Taken = added ≡ []

abbrev AddFactOf : List Version → (parent segment id : List ℕ) → List Version × protocol.Finding → Type 0
AddFactOf at parent segment id x = AddFact at parent segment id x.0 x.1

add_fact_by : (t there : Bool) (at : List Version) (parent segment id : List ℕ) → accepts at parent ≡ t
    → AddFactOf at parent segment id (cond {A = List Version × protocol.Finding} t (cond there ([], Taken) (version id parent segment ∷ [], Added id)) ([], Conflict (latest at)))
add_fact_by true true at parent segment id e = refl
add_fact_by true false at parent segment id e = (refl, refl, same_id_exact (latest at) parent e)
add_fact_by false there at parent segment id e = (refl, refl, apart (latest at) parent e)

pub add_fact : (at : List Version) (parent segment id : List ℕ) → AddFact at parent segment id (answer at (Add parent segment) id).0 (answer at (Add parent segment) id).1
add_fact at parent segment id = add_fact_by (accepts at parent) (has_id id at) at parent segment id refl
