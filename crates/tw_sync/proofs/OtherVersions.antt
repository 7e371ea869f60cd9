-- What others added to the chain.
use Rattle.std.proofs.Common.{◌≡◌, ◌⊎◌, ℕ, ◌+◌, ◌≤◌, ◌<◌, inl, inr, length, Bool, true, false, ◌||◌, List, [], ◌∷◌, ◌++◌, get_or, refl, sym, ap, subst, ◌∙◌, arith, length-append, ⊎_elim}
use Rattle.std.specs.Prelude.{All, Contains}
use Rattle.std.proofs.lemmas.List.Elements.{All-contains, Contains-get_or, Contains-append_cases, Contains-append_right, Contains-push_cases}
use Rattle.std.proofs.lemmas.Cmp.{nat_list_eq_equiv}
use Rattle.std.proofs.lemmas.Bool.{false≢true}
use Rattle.uuid.specs.Parts.{zero_bytes}
use Rattle.tw_protocol.specs.Chain.{Version, same_id, has_id, Differ, IsChain, Grows}
use Rattle.tw_http.specs.Link.{LinkModel, OwnAreOfChain}
use Rattle.tw_state.specs.State.{State}
use Rattle.tw_path.specs.Path.{added_of}
use Rattle.tw_sync.specs.Sync.{server_chain}
use Rattle.tw_sync.specs.Replies.Heard.{conflicts}
use Rattle.tw_sync.specs.Ends.Honest.{OthersAdded}
use Rattle.tw_sync.specs.Way.Progress.{HeardSoFar, IsLate, HeardToStop, IsStopped}
use Rattle.tw_sync.specs.Ends.Refused.{EndedBy, IsConflict}
use Rattle.tw_sync.specs.declared.cursor.Cursor.{Cursor}
use Rattle.tw_sync.specs.declared.error.SyncError.TheVariants as errors
use Rattle.tw_sync.proofs.Hearing.{hears_until}
use Rattle.tw_sync.proofs.ExpectedReplies.{goes_on_to_conflict}
use Rattle.tw_sync.proofs.PullRefused.{late_by_one, went_on}
use Rattle.tw_sync.proofs.ToldBefore.{tells_all}

none_there : (v : Version) → Contains [] v → ⊥
none_there v at = let lt = at.1 in omega (arith, lt)

one_there : (x v : Version) → Contains (x ∷ []) v → x ≡ v
one_there x v at = ⊎_elim {C = x ≡ v} (λ none. absurd (none_there v none)) (λ is. is) (Contains-push_cases [] x v at)

or_first : (b c : Bool) → b ≡ true → b || c ≡ true
or_first true c e = refl
or_first false c e = absurd (false≢true e)

or_second : (b c : Bool) → c ≡ true → b || c ≡ true
or_second true c e = refl
or_second false c e = e

has_it : (xs : List Version) (v : Version) → Contains xs v → has_id v.id xs ≡ true
has_it [] v at = absurd (none_there v at)
has_it (x ∷ xs) v at =
    ⊎_elim {C = has_id v.id (x ∷ xs) ≡ true}
    (λ first. or_first (same_id x.id v.id) (has_id v.id xs) (ap (λ (w : Version). same_id w.id v.id) (one_there x v first) ∙ nat_list_eq_equiv.refl v.id))
    (λ later. or_second (same_id x.id v.id) (has_id v.id xs) (has_it xs v later))
    (Contains-append_cases (x ∷ []) xs v at)

differ_has : (h : List ℕ) (xs : List Version) → Differ h xs → has_id h xs ≡ false
differ_has h [] d = refl
differ_has h (x ∷ xs) d = d.0

-- no version stands in two parts of a chain
not_twice : (h : List ℕ) (xs more : List Version) (v : Version) → Differ h (xs ++ more) → Contains xs v → Contains more v → ⊥
not_twice h [] more v d at again = none_there v at
not_twice h (x ∷ xs) more v d at again =
    ⊎_elim {C = ⊥}
    (λ first. false≢true (sym (differ_has x.id (xs ++ more) d.1) ∙ ap (λ (w : Version). has_id w.id (xs ++ more)) (one_there x v first) ∙ has_it (xs ++ more) v (Contains-append_right xs more v again)))
    (λ later. not_twice x.id xs more v d.1 later again)
    (Contains-append_cases (x ∷ []) xs v at)

-- what the chain grew by is of others, but for the own versions that were added since
pub others_added : {L : Type 0} (m : LinkModel L) (first now : L) (mine : List Version) (least : ℕ) → IsChain (m.chain now) → (g : Grows (m.chain first) (m.chain now)) → All (λ v. Contains (m.chain first) v) (m.own first) → m.own now ≡ m.own first ++ mine
    → length (m.chain first) + length mine + least ≤ length (m.chain now) → OthersAdded (server_chain m first) (server_chain m now) least
others_added m first now mine least whole g own added long = record {
  more = g.more;
  joined = g.joined;
  mine = mine;
  own = added;
  many = (let e = ap length g.joined in let n = length-append (m.chain first) g.more in omega (arith, e, n, long));
  of_others = λ i d lt has. by (get_or g.more i d) (Contains-get_or g.more i d lt) (Contains-append_cases (m.own first) mine (get_or g.more i d) (subst (λ vs. Contains vs (get_or g.more i d)) added has));
}
  where
    by : (v : Version) → Contains g.more v → Contains (m.own first) v ⊎ Contains mine v → Contains mine v
    by v there (inl before) = absurd (not_twice zero_bytes (m.chain first) g.more v (subst (Differ zero_bytes) g.joined whole.differ) (All-contains (λ w. Contains (m.chain first) w) (m.own first) v own before) there)
    by v there (inr since) = since

-- the sixteenth conflict ends the sync
pub busy : {L : Type 0} (m : LinkModel L) (client host : List ℕ) (state : State) (first now : L) (p : Cursor) (last : List ℕ) → OwnAreOfChain m first → IsLate m client host state first now p last → 15 < p.conflicts → IsStopped m client host state first now p (errors.Busy last)
busy m client host state first now p last own s over = record {
  legs = s.legs;
  path = s.on_path.path;
  stands = inr s.on_path;
  kept = s.asked.kept;
  cause = tt;
  heard = λ tells. to_stop (s.asked.heard tells);
  come = λ honest. (
      let c = s.come honest in
      record {
        whole = c.on.whole;
        grows = c.on.grows;
        refused = others_added m first now (added_of s.legs) 16 c.on.whole c.on.grows (own honest.tells) c.mine (let n = c.others in omega (arith, n, over));
        pulled = tt;
        went = went_on state (server_chain m first) (server_chain m now) s.legs (errors.Busy last) (record { path = s.on_path.path; between = c.lies; mine = c.mine; behind = c.behind });
      });
}
  where
    to_stop : HeardSoFar m client host first now s.legs p (λ hs. EndedBy hs (IsConflict last)) → HeardToStop m client host state first now s.legs (errors.Busy last)
    to_stop t =
        let sixteen : conflicts t.hs ≡ 16 = (let n = t.conflicts_are in let o = s.tries in omega (arith, n, o, over)) in
        record {
          hs = t.hs;
          hears = hears_until m client host first now t.hs (errors.Busy last) t.hears;
          refused = record { cause = (t.so, sixteen); until = goes_on_to_conflict t.hs last t.each t.followed (let b = t.bytes_are in let w = p.within in omega (arith, b, w)) sixteen t.so };
          measured = tt;
          tells = tells_all s.legs (errors.Busy last) t.hs refl t.told;
          few = λ honest. (
              let n = s.asked.count in
              let o = s.tries in
              let b = t.brought_is in
              let late = late_by_one p.conflicts p.versions (s.come honest).late in
              omega (arith, n, o, b, late, over));
        }
