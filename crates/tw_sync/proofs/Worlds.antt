-- Each event of a world keeps it good.
use Rattle.std.proofs.Common.{◌≡◌, ◌≤◌, Bool, true, false, cond, length, All, inl, inr, ⊎_elim, refl, sym, subst, ℕ, List, [], ◌∷◌, ◌++◌, Option, Some, None}
use Rattle.std.specs.List.{AllByRecursion}
use Rattle.std.proofs.lemmas.List.Elements.{All-nil, All-push, All-append}
use Rattle.uuid.specs.Parts.{zero_bytes}
use Rattle.tw_protocol.specs.Chain.{Version, IsUuid, Grows, same_id, latest, has_id}
use Rattle.tw_protocol.specs.Answer.{Finding, answer, accepts, version}
use Rattle.tw_protocol.specs.Answer.Ask.{Add as Ask_add, Child as Ask_child}
use Rattle.tw_protocol.specs.Answer.Finding.{Added, Conflict, Taken}
use Rattle.tw_protocol.specs.Snapshots.{Account, Reply, Stored, Refused, is_welcome}
use Rattle.tw_protocol.proofs.Chains.{answer_keeps_chain}
use Rattle.tw_protocol.proofs.Responses.{response_grows}
use Rattle.tw_http.specs.Link.{IsServedChain}
use Rattle.tw_http.specs.Serving.{demand_of, account_after}
use Rattle.tw_http.specs.Messages.{max_body, request_body}
use Rattle.tw_http.specs.declared.message.Request.{Request}
use Rattle.tw_http.specs.declared.message.Request.TheVariants.{Add, Child, AddSnapshot, Snapshot}
use Rattle.tw_state.specs.State.{State, start}
use Rattle.tw_outcome.specs.Agreement.{Agrees}
use Rattle.tw_sync.specs.Theorem.{World, AllAgree, IsGood, IsAmong, Makes, with_next, Runs, Crashes, Event, OnMachine, Answers, Leads, IsNew, ReachedIsGood}
use Rattle.tw_sync.specs.Theorem.{FollowsTheChain, ReachedFollows}
use Rattle.tw_sync.specs.Theorem.Event.{Run, Crash, Answer}
use Rattle.tw_sync.proofs.Folds.{agrees_is_kept, pending_acts_on_the_fold}
use Rattle.tw_sync.proofs.LocalSteps.{commit_agrees, undo_agrees}
use Rattle.tw_outcome.proofs.Ends.{end_agrees}
use Rattle.tw_sync.proofs.Ends.{new_replica_agrees}

-- ---- lists

picked : {X : Type 0} (P : X → Type 0) (front : List X) (x : X) (back : List X) → AllByRecursion P (front ++ x ∷ back) → P x
picked P [] x back all = all.0
picked P (y ∷ front) x back all = picked P front x back all.1

put : {X : Type 0} (P : X → Type 0) (front : List X) (x y : X) (back : List X) → AllByRecursion P (front ++ x ∷ back) → P y → AllByRecursion P (front ++ y ∷ back)
put P [] x y back all here = (here, all.1)
put P (z ∷ front) x y back all here = (all.0, put P front x y back all.1 here)

each : {X : Type 0} (P Q : X → Type 0) (xs : List X) → ((x : X) → P x → Q x) → AllByRecursion P xs → AllByRecursion Q xs
each P Q [] f all = tt
each P Q (x ∷ xs) f all = (f x all.0, each P Q xs f all.1)

one_more : {X : Type 0} (P : X → Type 0) (xs : List X) (x : X) → AllByRecursion P xs → P x → AllByRecursion P (xs ++ x ∷ [])
one_more P [] x all here = (here, tt)
one_more P (y ∷ xs) x all here = (all.0, one_more P xs x all.1 here)

agrees_among : (chain : List Version) (states : List State) (state : State) → AllAgree chain states → IsAmong states state → Agrees state chain
agrees_among chain [] state all is = absurd is
agrees_among chain (first ∷ states) state all (inl same) = subst (λ s. Agrees s chain) same all.0
agrees_among chain (first ∷ states) state all (inr later) = agrees_among chain states state all.1 later

-- ---- growth

grown : (old new : List Version) → Grows old new → (states : List State) → AllAgree old states → AllAgree new states
grown old new g states all = each (λ s. Agrees s old) (λ s. Agrees s new) states (λ s a. agrees_is_kept s old new a g) all

all_grown : (old new : List Version) → Grows old new → (machines : List (List State)) → AllByRecursion (AllAgree old) machines → AllByRecursion (AllAgree new) machines
all_grown old new g machines all = each (AllAgree old) (AllAgree new) machines (λ states a. grown old new g states a) all

-- ---- a run

made_agrees : (chain now : List Version) (state next : State) → IsServedChain now → Grows chain now → Agrees state chain → Makes chain now state (Some next) → Agrees next now
made_agrees chain now state next served g a (inl c) = commit_agrees c.renumber c.ops state next now c.group (agrees_is_kept state chain now a g) c.step
made_agrees chain now state next served g a (inr (inl undo)) = undo_agrees state next now (agrees_is_kept state chain now a g) undo
made_agrees chain now state next served g a (inr (inr s)) = end_agrees s.answer state s.from next (record { chain = chain; own = s.own }) (record { chain = now; own = s.own_now }) served.whole a s.sound s.ended

with_next_agrees : (chain now : List Version) (states : List State) (state : State) (next : Option State) → IsServedChain now → Grows chain now → Agrees state chain → Makes chain now state next → AllAgree now states → AllAgree now (with_next states next)
with_next_agrees chain now states state None served g a makes all = all
with_next_agrees chain now states state (Some next) served g a makes all = one_more (λ s. Agrees s now) states next all (made_agrees chain now state next served g a makes)

run_agrees : (chain now : List Version) (states left : List State) → IsServedChain now → AllAgree chain states → Runs chain now states left → AllAgree now left
run_agrees chain now states left served all r = ⊎_elim before after r.leaves
  where
    state_agrees : Agrees r.state chain
    state_agrees = agrees_among chain states r.state all r.among

    before : left ≡ with_next states r.next → AllAgree now left
    before e = subst (AllAgree now) (sym e) (with_next_agrees chain now states r.state r.next served r.grows state_agrees r.makes (grown chain now r.grows states all))

    after : (one : State) × (r.next ≡ Some one) × (left ≡ one ∷ []) → AllAgree now left
    after one =
        let makes : Makes chain now r.state (Some one.0) = subst (Makes chain now r.state) one.1 r.makes in
        subst (AllAgree now) (sym one.2) (made_agrees chain now r.state one.0 served r.grows state_agrees makes, tt)

crash_agrees : (chain : List Version) (states left : List State) → AllAgree chain states → Crashes states left → AllAgree chain left
crash_agrees chain states left all c = subst (AllAgree chain) (sym c.one) (agrees_among chain states c.state all c.among, tt)

-- ---- chains

abbrev Fits : Version → Type 0
Fits v = length v.segment ≤ max_body

no_chain : IsServedChain []
no_chain = record { whole = record { row = tt; differ = tt; uuids = All-nil _ }; fit = All-nil _ }

added_fit : (chain : List Version) (parent segment id : List ℕ) → length segment ≤ max_body → All Fits (answer chain (Ask_add parent segment) id).0
added_fit chain parent segment id le = by (accepts chain parent) (has_id id chain)
  where
    by : (accepted known : Bool) → All Fits (cond {A = List Version × Finding} accepted (cond known ([], Taken) (version id parent segment ∷ [], Added id)) ([], Conflict (latest chain))).0
    by true true = All-nil Fits
    by true false = All-push Fits [] (version id parent segment) (All-nil Fits) le
    by false known = All-nil Fits

same_if : (t : Bool) (account other : Account) → account.chain ≡ other.chain → IsServedChain other.chain → IsServedChain (cond {A = Account × Reply} t (account, Stored) (other, Refused)).0.chain
same_if true account other same served = subst IsServedChain (sym same) served
same_if false account other same served = served

-- what an answer leaves is a served chain
answer_served : (account : Account) (request : Request) (id : List ℕ) → IsServedChain account.chain → IsUuid id → same_id id zero_bytes ≡ false → length (request_body request) ≤ max_body → IsServedChain (account_after account request id).chain
answer_served account (Add client parent segment) id served uuid real le = record {
  whole = answer_keeps_chain account.chain (Ask_add parent segment) id served.whole uuid real;
  fit = All-append Fits account.chain (answer account.chain (Ask_add parent segment) id).0 served.fit (added_fit account.chain parent segment id le);
}
answer_served account (Child client parent) id served uuid real le = record {
  whole = answer_keeps_chain account.chain (Ask_child parent) id served.whole uuid real;
  fit = All-append Fits account.chain [] served.fit (All-nil Fits);
}
answer_served account (AddSnapshot client v bytes) id served uuid real le =
    same_if (is_welcome account v) (record { chain = account.chain; stored = Some (record { version = v; bytes = bytes }) }) account refl served
answer_served account (Snapshot client) id served uuid real le = served

-- ---- events

run_keeps : (number : ℕ) (old new : World) → IsGood old → OnMachine number (Runs old.chain new.chain) old new → IsGood new
run_keeps number old new good on =
    let was : AllByRecursion (AllAgree old.chain) (on.front ++ on.states ∷ on.back) = subst (AllByRecursion (AllAgree old.chain)) on.was good.agree in
    record {
      served = on.step.served good.served;
      agree = subst (AllByRecursion (AllAgree new.chain)) (sym on.is)
          (put (AllAgree new.chain) on.front on.states on.left on.back (all_grown old.chain new.chain on.step.grows (on.front ++ on.states ∷ on.back) was)
          (run_agrees old.chain new.chain on.states on.left (on.step.served good.served) (picked (AllAgree old.chain) on.front on.states on.back was) on.step));
    }

crash_keeps : (number : ℕ) (old new : World) → IsGood old → OnMachine number Crashes old new → new.chain ≡ old.chain → IsGood new
crash_keeps number old new good on same =
    let was : AllByRecursion (AllAgree old.chain) (on.front ++ on.states ∷ on.back) = subst (AllByRecursion (AllAgree old.chain)) on.was good.agree in
    let is : AllByRecursion (AllAgree old.chain) new.machines =
    subst (AllByRecursion (AllAgree old.chain)) (sym on.is)
    (put (AllAgree old.chain) on.front on.states on.left on.back was (crash_agrees old.chain on.states on.left (picked (AllAgree old.chain) on.front on.states on.back was) on.step)) in
    record { served = subst IsServedChain (sym same) good.served; agree = subst (λ c. AllByRecursion (AllAgree c) new.machines) (sym same) is }

answer_keeps : (request : Request) (id : List ℕ) (old new : World) → IsGood old → Answers request id old new → IsGood new
answer_keeps request id old new good a =
    let account : Account = record { chain = old.chain; stored = a.stored } in
    let now : List Version = (account_after account request id).chain in
    let agree : AllByRecursion (AllAgree now) new.machines = subst (AllByRecursion (AllAgree now)) (sym a.machines) (all_grown old.chain now (response_grows account (demand_of request) id) old.machines good.agree) in
    record {
      served = subst IsServedChain (sym a.chain) (answer_served account request id good.served a.uuid a.real a.fits);
      agree = subst (λ c. AllByRecursion (AllAgree c) new.machines) (sym a.chain) agree;
    }

event_keeps : (event : Event) (old new : World) → IsGood old → Leads event old new → IsGood new
event_keeps (Run number) old new good on = run_keeps number old new good on
event_keeps (Crash number) old new good on = crash_keeps number old new good on.0 on.1
event_keeps (Answer request id) old new good a = answer_keeps request id old new good a

new_is_good : (world : World) → IsNew world → IsGood world
new_is_good world fresh = record {
  served = subst IsServedChain (sym fresh.chain) no_chain;
  agree = each (λ states. states ≡ start ∷ []) (AllAgree world.chain) world.machines (λ states e. subst (AllAgree world.chain) (sym e) (new_replica_agrees world.chain, tt)) fresh.machines;
}

pub reached_is_good : ReachedIsGood
reached_is_good [] world fresh = new_is_good world fresh
reached_is_good (event ∷ events) world reached = event_keeps event reached.0 world (reached_is_good events reached.0 reached.1) reached.2

pub reached_follows : ReachedFollows
reached_follows events world reached =
    let good : IsGood world = reached_is_good events world reached in
    each (AllAgree world.chain) (AllByRecursion (FollowsTheChain world.chain)) world.machines
    (λ states all. each (λ s. Agrees s world.chain) (FollowsTheChain world.chain) states (λ s a there fold. pending_acts_on_the_fold s world.chain there good.served.whole a fold) all) good.agree
