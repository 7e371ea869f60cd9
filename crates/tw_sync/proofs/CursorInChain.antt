-- Where a sync stands, as the chain grows and versions are taken and added.
use Rattle.std.proofs.Common.{◌≡◌, ℕ, ◌+◌, ◌≤◌, inl, inr, Bool, length, List, [], ◌∷◌, ◌++◌, sym, refl, ap, subst, ◌∙◌, arith, length-append}
use Rattle.std.specs.List.{AllByRecursion}
use Rattle.std.proofs.lemmas.List.{append-nil, append_assoc}
use Rattle.tw_model.specs.declared.SyncOp.{SyncOp}
use Rattle.tw_protocol.specs.Chain.{Version, latest, IsChain, IsCut, IsBetween, HoldsAll, Grows}
use Rattle.tw_protocol.specs.Answer.{version}
use Rattle.tw_protocol.proofs.Between.{between_joins}
use Rattle.tw_protocol.proofs.Chains.{row_is_split_once}
use Rattle.tw_segment.specs.Segment.{max_len, segment_text, IsSegment}
use Rattle.tw_state.specs.State.{State}
use Rattle.tw_groups.specs.Groups.{joined}
use Rattle.tw_groups.specs.Cut.{first}
use Rattle.tw_path.specs.Path.{Leg, IsPush, is_batch, versions_of, version_on, added_of}
use Rattle.tw_path.specs.Path.Leg.{Pull, Push}
use Rattle.tw_path.specs.Walk.{StandsAt}
use Rattle.tw_path.proofs.Paths.{paths_join}
use Rattle.tw_outcome.specs.End.{starts_at}
use Rattle.tw_sync.specs.Way.Cursor.{place, pulled_len, IsOnPath, IsIn, LiesIn, TakesVersion, AddsVersion}
use Rattle.tw_sync.specs.Start.{Start, from_state, MayStart}
use Rattle.tw_sync.specs.Start.Start.{Base, Snapshot}
use Rattle.tw_sync.specs.Ends.Honest.{segments_len}
use Rattle.tw_sync.specs.declared.cursor.Cursor.{Cursor}
use Rattle.tw_sync.proofs.Legs.{at_on, versions_on, added_pull, pulled_pull, sent_pull, len_pull, added_push, pulled_push, sent_push, len_push}

-- ---- chains that grow

pub grown_longer : (a b : List Version) → Grows a b → length a ≤ length b
grown_longer a b g = let n = ap length g.joined in let m = length-append a g.more in omega (arith, n, m)

pub cut_grows : (old new : List Version) (v : List ℕ) (front back : List Version) → IsCut old v front back → (g : Grows old new) → IsCut new v front (back ++ g.more)
cut_grows old new v front back cut g = record { split = g.joined ∙ ap (λ c. c ++ g.more) cut.split ∙ append_assoc front back g.more; at = cut.at }

pub between_grows : (old new : List Version) (v w : List ℕ) (versions : List Version) → IsBetween old v w versions → Grows old new → IsBetween new v w versions
between_grows old new v w versions b g = record {
  front = b.front;
  back = b.back ++ g.more;
  split = g.joined ∙ ap (λ c. c ++ g.more) b.split ∙ append_assoc (b.front ++ versions) b.back g.more;
  from = b.from;
  to = b.to;
}

pub holds_grown : (old now later : List Version) (v : List ℕ) → HoldsAll old now v → Grows now later → HoldsAll old later v
holds_grown old now later v h g = record { front = h.front; back = h.back ++ g.more; cut = cut_grows now later v h.front h.back h.cut g; holds = h.holds }

pub pushes_grown : (old now later : List Version) (vs : List Version) → AllByRecursion (λ v. HoldsAll old now v.parent) vs → Grows now later → AllByRecursion (λ v. HoldsAll old later v.parent) vs
pushes_grown old now later [] all g = tt
pushes_grown old now later (v ∷ vs) all g = (holds_grown old now later v.parent all.0 g, pushes_grown old now later vs all.1 g)

-- no version lies between a version and itself
pub between_none : (chain : List Version) (v : List ℕ) (front back : List Version) → IsCut chain v front back → IsBetween chain v v []
between_none chain v front back cut = record {
  front = front;
  back = back;
  split = cut.split ∙ ap (λ xs. xs ++ back) (sym (append-nil front));
  from = cut.at;
  to = ap latest (append-nil front) ∙ cut.at;
}

pub cut_before : (chain : List Version) (v w : List ℕ) (versions : List Version) (b : IsBetween chain v w versions) → IsCut chain v b.front (versions ++ b.back)
cut_before chain v w versions b = record { split = b.split ∙ append_assoc b.front versions b.back; at = b.from }

pub cut_behind : (chain : List Version) (v w : List ℕ) (versions : List Version) (b : IsBetween chain v w versions) → IsCut chain w (b.front ++ versions) b.back
cut_behind chain v w versions b = record { split = b.split; at = b.to }

-- ---- a path

pub is_in_grown : (state : State) (old new : List Version) (legs : List Leg) → IsIn state old legs → Grows old new → IsIn state new legs
is_in_grown state old new legs is g = between_grows old new state.base (place state legs).at (versions_of legs) is g

pub lies_grown : (state : State) (old new : List Version) (legs : List Leg) → LiesIn state old legs → Grows old new → LiesIn state new legs
lies_grown state old new legs (inl none) g = inl none
lies_grown state old new legs (inr is) g = inr (is_in_grown state old new legs is g)

-- if the chain knows its end, it lies in the chain
pub lies_at_cut : (state : State) (chain : List Version) (legs : List Leg) (front back : List Version) → IsCut chain (place state legs).at front back → LiesIn state chain legs → IsIn state chain legs
lies_at_cut state chain legs front back cut (inl none) =
    subst (IsIn state chain) (sym none) (between_none chain state.base front back (subst (λ ls. IsCut chain (place state ls).at front back) none cut))
lies_at_cut state chain legs front back cut (inr is) = is

-- it goes on to the version after its end
pub lies_on : (state : State) (chain : List Version) (legs : List Leg) (leg : Leg) → IsChain chain → IsIn state chain legs → IsBetween chain (place state legs).at (version_on leg).id (version_on leg ∷ []) → IsIn state chain (legs ++ leg ∷ [])
lies_on state chain legs leg whole is next =
    subst (λ h. IsBetween chain state.base h (versions_of (legs ++ leg ∷ []))) (sym (at_on state legs leg))
    (subst (λ vs. IsBetween chain state.base (version_on leg).id vs) (sym (versions_on legs leg))
    (between_joins chain state.base (place state legs).at (version_on leg).id (versions_of legs) (version_on leg ∷ []) whole is next))

pub segments_len-append : (us vs : List Version) → segments_len (us ++ vs) ≡ segments_len us + segments_len vs
segments_len-append [] vs = omega arith
segments_len-append (u ∷ us) vs = let e = segments_len-append us vs in omega (arith, e)

-- no more is pulled than its versions have
pub pulled_within : (legs : List Leg) → pulled_len legs ≤ segments_len (versions_of legs)
pulled_within [] = omega arith
pulled_within (Pull v ops ∷ legs) = let e = pulled_within legs in omega (arith, e)
pulled_within (Push v ops ∷ legs) = let e = pulled_within legs in omega (arith, e)

-- ---- the cursor

-- a version is taken
pub taken_on : (state : State) (legs : List Leg) (p q : Cursor) (id segment : List ℕ) → IsOnPath state legs p → (t : TakesVersion state.tasks p q id segment) → IsOnPath state (legs ++ Pull (version id p.walker.at segment) t.ops ∷ []) q
taken_on state legs p q id segment s t =
    let v : Version = version id p.walker.at segment in
    let leg : Leg = Pull v t.ops in
    let joins = paths_join (starts_at state) legs (leg ∷ []) in
    record {
      path = joins.1 s.path ((s.stands.at, t.reads), tt);
      stands = subst (λ r. StandsAt state.tasks r q.walker) (sym joins.0) (t.walks (place state legs) v refl s.stands);
      versions = (let a = t.versions in let b = s.versions in let c = pulled_pull legs v t.ops in omega (arith, a, b, c));
      bytes = (let a = t.bytes in let b = s.bytes in let c = len_pull legs v t.ops in omega (arith, a, b, c));
      pending = t.pending ∙ s.pending;
      unsent = (let a = t.unsent in let b = s.unsent in let c = sent_pull legs v t.ops in omega (arith, a, b, c));
      wants = λ wanted. (let a = s.wants (sym t.wanted ∙ wanted) in let b = ap length (added_pull legs v t.ops) in omega (arith, a, b));
    }

-- a version may be pushed: the first of what is left is its text
pub may_push : (state : State) (legs : List Leg) (p : Cursor) (id segment : List ℕ) (ops : List SyncOp) → IsOnPath state legs p → ¬ (joined (place state legs).left ≡ []) → ops ≡ first is_batch (place state legs).left
    → segment ≡ segment_text ops → IsSegment segment ops → length segment ≤ max_len → IsPush (place state legs) (version id p.walker.at segment) ops
may_push state legs p id segment ops s some sent text reads within = record { parent = s.stands.at; reads = reads; some = some; sent = sent; text = text; short = within }

-- it is added
pub added_on_path : {wanted : Bool} (state : State) (legs : List Leg) (p q : Cursor) (v : Version) (ops : List SyncOp) → IsOnPath state legs p → IsPush (place state legs) v ops → AddsVersion p q v.id ops wanted → IsOnPath state (legs ++ Push v ops ∷ []) q
added_on_path state legs p q v ops s push t =
    let leg : Leg = Push v ops in
    let joins = paths_join (starts_at state) legs (leg ∷ []) in
    record {
      path = joins.1 s.path (push, tt);
      stands = subst (λ r. StandsAt state.tasks r q.walker) (sym joins.0) (t.walks state.tasks (place state legs) v refl s.stands);
      versions = (let a = t.versions in let b = s.versions in let c = pulled_push legs v ops in omega (arith, a, b, c));
      bytes = (let a = t.bytes in let b = s.bytes in let c = len_push legs v ops in omega (arith, a, b, c));
      pending = t.pending ∙ s.pending;
      unsent = (let a = t.unsent in let b = s.unsent in let c = sent_push legs v ops in omega (arith, a, b, c));
      wants = λ wanted. (let a = ap length (added_push legs v ops) in let b = length-append (added_of legs) (v ∷ []) in omega (arith, a, b));
    }

-- ---- away from the base

-- versions lead to none that is before them
leads_away : (chain : List Version) (v w from : List ℕ) (versions front back : List Version) → IsChain chain → (b : IsBetween chain v w versions) → 1 ≤ length versions → IsCut chain from front back → length front ≤ length b.front → ¬ (w ≡ from)
leads_away chain v w from versions front back whole b some cut le same =
    let there : IsCut chain from (b.front ++ versions) b.back = subst (λ x. IsCut chain x (b.front ++ versions) b.back) same (cut_behind chain v w versions b) in
    let n = ap length (row_is_split_once chain from (b.front ++ versions) b.back front back whole there cut) in
    let p = length-append b.front versions in
    omega (arith, n, p, le, some)

added_within : (legs : List Leg) → length (added_of legs) ≤ length (versions_of legs)
added_within [] = omega arith
added_within (Pull v ops ∷ legs) = let e = added_within legs in omega (arith, e)
added_within (Push v ops ∷ legs) = let e = added_within legs in omega (arith, e)

-- a path on which a version was added does not end at the replica's base
pub added_away : (start : Start) (old : State) (chain : List Version) (legs : List Leg) → MayStart start old → IsChain chain → IsIn (from_state start old) chain legs → 1 ≤ length (added_of legs) → ¬ ((place (from_state start old) legs).at ≡ old.base)
added_away Base old chain legs may whole b some =
    let more = added_within legs in
    leads_away chain old.base (place old legs).at old.base (versions_of legs) b.front (versions_of legs ++ b.back) whole b (omega (arith, some, more)) (cut_before chain old.base (place old legs).at (versions_of legs) b) (omega arith)
added_away (Snapshot version tasks) old chain legs may whole b some =
    let more = added_within legs in
    leads_away chain version (place (from_state (Snapshot version tasks) old) legs).at old.base (versions_of legs) [] chain whole b (omega (arith, some, more)) (record { split = refl; at = sym may.nil }) (omega arith)
