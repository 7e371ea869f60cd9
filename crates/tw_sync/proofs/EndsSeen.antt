-- An end of a sync over the chain as it was before the sync, and over the one after it.
use Rattle.std.proofs.Common.{◌≡◌, ◌⊎◌, ℕ, inl, inr, List, [], ◌∷◌, ◌++◌, ap, ◌∙◌}
use Rattle.std.specs.List.{AllByRecursion}
use Rattle.tw_protocol.specs.Chain.{Version, IsBetween, Grows, HoldsAll}
use Rattle.tw_state.specs.State.{State}
use Rattle.tw_path.specs.Path.{Reached, Leg, come, versions_of, added_of}
use Rattle.tw_outcome.specs.End.{ServerChain, Went, Answer, EndsSo, End}
use Rattle.tw_outcome.specs.End.Answer.{Done, Stopped, Unwritten}
use Rattle.tw_sync.proofs.CursorInChain.{between_grows, holds_grown, pushes_grown}
use Rattle.tw_sync.proofs.Served.{grows_on}

-- ---- seen from an earlier chain

holds_before : (old mid now : List Version) (v : List ℕ) → Grows old mid → HoldsAll mid now v → HoldsAll old now v
holds_before old mid now v g h = record { front = h.front; back = h.back; cut = h.cut; holds = grows_on old mid h.front g h.holds }

pushes_before : (old mid now : List Version) (vs : List Version) → Grows old mid → AllByRecursion (λ v. HoldsAll mid now v.parent) vs → AllByRecursion (λ v. HoldsAll old now v.parent) vs
pushes_before old mid now [] g all = tt
pushes_before old mid now (v ∷ vs) g all = (holds_before old mid now v.parent g all.0, pushes_before old mid now vs g all.1)

went_before : (start : Reached) (first mid after : ServerChain) (legs : List Leg) → Grows first.chain mid.chain → mid.own ≡ first.own → Went start mid after legs → Went start first after legs
went_before start first mid after legs g mine w =
    record { path = w.path; between = w.between; mine = w.mine ∙ ap (λ vs. vs ++ added_of legs) mine; behind = pushes_before first.chain mid.chain after.chain (added_of legs) g w.behind }

module _ (answer : Answer) (old : State) (start : Reached) (new : State) (first mid after : ServerChain) (g : Grows first.chain mid.chain) (mine : mid.own ≡ first.own) where
  pub ends_before : End answer old start new mid after → End answer old start new first after
  ends_before e = (grows_on first.chain mid.chain after.chain g e.0, by answer e.1)
    where
      by : (a : Answer) → EndsSo a old start new mid after → EndsSo a old start new first after
      by (Done report) d = record {
        legs = d.legs;
        went = went_before start first mid after d.legs g mine d.went;
        nothing = d.nothing;
        last = holds_before first.chain mid.chain after.chain (come start d.legs).at g d.last;
        state = d.state;
        pulled = d.pulled;
        pushed = d.pushed;
        dropped = d.dropped;
        base = d.base;
      }
      by Stopped s = record { legs = s.legs; untold = s.untold; few = s.few; went = went_before start first mid after (s.legs ++ s.untold) g mine s.went; state = s.state }
      by Unwritten k = record { legs = k.legs; went = went_before start first mid after k.legs g mine k.went; state = k.state }

-- ---- seen from a later one

module _ (answer : Answer) (old : State) (start : Reached) (new : State) (before now last : ServerChain) (g : Grows now.chain last.chain) (mine : last.own ≡ now.own) where
  lies_after : (legs : List Leg) → (legs ≡ []) ⊎ IsBetween now.chain start.at (come start legs).at (versions_of legs) → (legs ≡ []) ⊎ IsBetween last.chain start.at (come start legs).at (versions_of legs)
  lies_after legs (inl none) = inl none
  lies_after legs (inr b) = inr (between_grows now.chain last.chain start.at (come start legs).at (versions_of legs) b g)

  went_after : (legs : List Leg) → Went start before now legs → Went start before last legs
  went_after legs w = record { path = w.path; between = lies_after legs w.between; mine = mine ∙ w.mine; behind = pushes_grown before.chain now.chain last.chain (added_of legs) w.behind g }

  pub ends_after : End answer old start new before now → End answer old start new before last
  ends_after e = (grows_on before.chain now.chain last.chain e.0 g, by answer e.1)
    where
      by : (a : Answer) → EndsSo a old start new before now → EndsSo a old start new before last
      by (Done report) d = record {
        legs = d.legs;
        went = went_after d.legs d.went;
        nothing = d.nothing;
        last = holds_grown before.chain now.chain last.chain (come start d.legs).at d.last g;
        state = d.state;
        pulled = d.pulled;
        pushed = d.pushed;
        dropped = d.dropped;
        base = d.base;
      }
      by Stopped s = record { legs = s.legs; untold = s.untold; few = s.few; went = went_after (s.legs ++ s.untold) s.went; state = s.state }
      by Unwritten k = record { legs = k.legs; went = went_after k.legs k.went; state = k.state }
