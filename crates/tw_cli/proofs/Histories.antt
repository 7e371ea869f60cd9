-- What befalls a machine, seen from one state that its disk may open to.
use Rattle.std.proofs.Common.{◌≡◌, ◌≢◌, ◌==◌, ◌∙◌, ◌⊎◌, inl, inr, refl, sym, ap, subst, ℕ, zero, suc, true, false, length, List, [], ◌∷◌, ◌++◌, get_or, Option, Some, None}
use Rattle.std.proofs.lemmas.Bool.Decides.{eqb_tells}
use Rattle.std.proofs.Math.Seq.{get_or-append_seam}
use Rattle.tw_world.specs.Disk.{DiskModel, Tells}
use Rattle.tw_spawn.specs.Spawner.{SpawnerModel}
use Rattle.tw_protocol.specs.Chain.{Version, Grows}
use Rattle.tw_protocol.specs.Snapshots.{Account}
use Rattle.tw_protocol.proofs.Responses.{response_grows}
use Rattle.tw_http.specs.Serving.{demand_of}
use Rattle.tw_state.specs.State.{State}
use Rattle.tw_sync.specs.Theorem.{World, Event, IsAmong, Makes, Leads, Reach, Runs, Crashes, OnMachine, with_next}
use Rattle.tw_sync.specs.Theorem.Event.{Run, Crash, Answer}
use Rattle.tw_sync.proofs.Served.{grows_same}
use Rattle.tw_replica.specs.Replica.{OpensTo}
use Rattle.tw_replica.specs.Opening.{opened_bodies}
use Rattle.tw_replica.specs.Prepared.{step_bodies}
use Rattle.tw_cli.specs.Opening.{HasMore}
use Rattle.tw_cli.specs.Events.{OpensAmong}
use Rattle.tw_cli.specs.Surviving.{DoneIsAlone, Since, states_of, Came}
use Rattle.tw_cli.specs.Surviving.Came.{stayed, grew, ran}
use Rattle.tw_cli.proofs.Openings.{opens_one}

-- ---- lists

-- the elements at other places stay
other_place : {X : Type 0} (d : X) (front : List X) (x y : X) (back : List X) (i : ℕ) → (i ≡ length front → ⊥) → get_or (front ++ x ∷ back) i d ≡ get_or (front ++ y ∷ back) i d
other_place d [] x y back zero apart = absurd (apart refl)
other_place d [] x y back (suc i) apart = refl
other_place d (z ∷ front) x y back zero apart = refl
other_place d (z ∷ front) x y back (suc i) apart = other_place d front x y back i (λ e. apart (ap suc e))

among_more : (states : List State) (one state : State) → IsAmong (states ++ one ∷ []) state → IsAmong states state ⊎ (one ≡ state)
among_more [] one state (inl same) = inr same
among_more [] one state (inr none) = absurd none
among_more (first ∷ states) one state (inl same) = inl (inl same)
among_more (first ∷ states) one state (inr later) = by (among_more states one state later)
  where
    by : IsAmong states state ⊎ (one ≡ state) → IsAmong (first ∷ states) state ⊎ (one ≡ state)
    by (inl is) = inl (inr is)
    by (inr same) = inr same

among_one : (one state : State) → IsAmong (one ∷ []) state → one ≡ state
among_one one state (inl same) = same
among_one one state (inr none) = absurd none

-- ---- a command that was carried out

pub done_is_alone : {D P : Type 0} (m : DiskModel D) (hooks : SpawnerModel P) → ((disk : D) → Tells m disk → m.leaves disk (m.seen disk)) → DoneIsAlone m hooks
done_is_alone m hooks seen_may_stay request ids d0 d1 p0 p1 run asked cause chain now states tells kept opens which on = by (on.done opens which)
  where
    more : HasMore (m.seen d0) (m.seen d1) (step_bodies run.carried.step) run.old run.carried.new
    more = (run.disk tells).0

    there : OpensTo (m.seen d1) run.carried.new
    there = record { bodies = opened_bodies (m.seen d0) run.old more.bodies ++ step_bodies run.carried.step; records = more.has; stands = more.stands }

    by : (one : State) × (on.left ≡ one ∷ []) → on.left ≡ run.carried.new ∷ []
    by one =
        let opened : OpensAmong (one.0 ∷ []) (m.seen d1) =
        subst (λ (states : List State). OpensAmong states (m.seen d1)) one.1 (on.stands (m.seen d1) (seen_may_stay d1 (kept.tells ∙ tells))) in
        let same : one.0 ≡ run.carried.new = among_one one.0 opened.0 opened.1 ∙ opens_one (m.seen d1) opened.0 run.carried.new opened.2 there in
        one.1 ∙ ap (λ (s : State). s ∷ []) same

-- ---- where a state comes from

-- it was there before, or a run made it of one that was
abbrev pub ComesFrom : (chain now : List Version) → List State → State → Type 0
ComesFrom chain now states state = IsAmong states state ⊎ ((origin : State) × IsAmong states origin × Makes chain now origin (Some state))

run_comes : (chain now : List Version) (states left : List State) → Runs chain now states left → (state : State) → IsAmong left state → ComesFrom chain now states state
run_comes chain now states left r state is = by r.leaves
  where
    made : (one : State) → Makes chain now r.state (Some one) → one ≡ state → ComesFrom chain now states state
    made one makes same = inr (r.state, r.among, subst (λ (s : State). Makes chain now r.state (Some s)) same makes)

    either : (one : State) → Makes chain now r.state (Some one) → IsAmong states state ⊎ (one ≡ state) → ComesFrom chain now states state
    either one makes (inl was) = inl was
    either one makes (inr same) = made one makes same

    with : (next : Option State) → Makes chain now r.state next → IsAmong (with_next states next) state → ComesFrom chain now states state
    with None makes among = inl among
    with (Some one) makes among = either one makes (among_more states one state among)

    by : (left ≡ with_next states r.next) ⊎ ((one : State) × (r.next ≡ Some one) × (left ≡ one ∷ [])) → ComesFrom chain now states state
    by (inl e) = with r.next r.makes (subst (λ (ls : List State). IsAmong ls state) e is)
    by (inr one) = made one.0 (subst (Makes chain now r.state) one.1 r.makes) (among_one one.0 state (subst (λ (ls : List State). IsAmong ls state) one.2 is))

crash_comes : (chain now : List Version) (states left : List State) → Crashes states left → (state : State) → IsAmong left state → ComesFrom chain now states state
crash_comes chain now states left c state is =
    inl (subst (IsAmong states) (among_one c.state state (subst (λ (ls : List State). IsAmong ls state) c.one is)) c.among)

-- of a machine that an event may be about
machine_comes : (number : ℕ) (Step : List State → List State → Type 0) (old new : World) (on : OnMachine number Step old new) (chain now : List Version)
    → ((states left : List State) → Step states left → (state : State) → IsAmong left state → ComesFrom chain now states state)
    → (asked : ℕ) (state : State) → IsAmong (states_of new asked) state → ComesFrom chain now (states_of old asked) state
machine_comes number Step old new on chain now comes asked state is = by (eqb_tells asked number)
  where
    was : states_of old asked ≡ get_or (on.front ++ on.states ∷ on.back) asked []
    was = ap (λ (ms : List (List State)). get_or ms asked []) on.was

    there : states_of new asked ≡ get_or (on.front ++ on.left ∷ on.back) asked []
    there = ap (λ (ms : List (List State)). get_or ms asked []) on.is

    seat : asked ≡ number → (x : List State) → get_or (on.front ++ x ∷ on.back) asked [] ≡ x
    seat same x = ap (λ (i : ℕ). get_or (on.front ++ x ∷ on.back) i []) (same ∙ sym on.place) ∙ get_or-append_seam on.front x on.back []

    by : ((asked == number ≡ true) × (asked ≡ number)) ⊎ ((asked == number ≡ false) × (asked ≢ number)) → ComesFrom chain now (states_of old asked) state
    by (inl e) =
        subst (λ (states : List State). ComesFrom chain now states state) (sym (was ∙ seat e.1 on.states))
        (comes on.states on.left on.step state (subst (λ (states : List State). IsAmong states state) (there ∙ seat e.1 on.left) is))
    by (inr e) =
        let same : states_of new asked ≡ states_of old asked =
        there ∙ other_place [] on.front on.left on.states on.back asked (λ f. e.1 (f ∙ on.place)) ∙ sym was in
        inl (subst (λ (states : List State). IsAmong states state) same is)

-- of each machine, at each event
event_comes : (event : Event) (old new : World) → Leads event old new → (asked : ℕ) (state : State) → IsAmong (states_of new asked) state
    → Grows old.chain new.chain × ComesFrom old.chain new.chain (states_of old asked) state
event_comes (Run number) old new on asked state is =
    (on.step.grows, machine_comes number (Runs old.chain new.chain) old new on old.chain new.chain (run_comes old.chain new.chain) asked state is)
event_comes (Crash number) old new on asked state is = (
  subst (Grows old.chain) (sym on.1) (grows_same old.chain),
  machine_comes number Crashes old new on.0 old.chain new.chain (crash_comes old.chain new.chain) asked state is,
)
event_comes (Answer request id) old new a asked state is = (
  subst (Grows old.chain) (sym a.chain) (response_grows (let account : Account = record { chain = old.chain; stored = a.stored } in account) (demand_of request) id),
  inl (subst (λ (ms : List (List State)). IsAmong (get_or ms asked []) state) a.machines is),
)

-- each state that a machine may have came from the only one that it could have before
pub came_since : (number : ℕ) (from : World) (one : State) → states_of from number ≡ one ∷ [] → (events : List Event) (now : World) → Since from events now
    → (state : State) → IsAmong (states_of now number) state → Came one from.chain now.chain state
came_since number from one alone [] now same state is =
    let here : IsAmong (one ∷ []) state = subst (λ (states : List State). IsAmong states state) (ap (λ (w : World). states_of w number) same ∙ alone) is in
    subst (λ (w : World). Came one from.chain w.chain state) (sym same) (subst (Came one from.chain from.chain) (among_one one state here) stayed)
came_since number from one alone (event ∷ events) now since state is = by step.1 (came_since number from one alone events since.0 since.1)
  where
    step : Grows since.0.chain now.chain × ComesFrom since.0.chain now.chain (states_of since.0 number) state
    step = event_comes event since.0 now since.2 number state is

    by : ComesFrom since.0.chain now.chain (states_of since.0 number) state → ((other : State) → IsAmong (states_of since.0 number) other → Came one from.chain since.0.chain other)
        → Came one from.chain now.chain state
    by (inl was) before = grew since.0.chain now.chain state (before state was) step.0
    by (inr made) before = ran since.0.chain now.chain made.0 state (before made.0 made.1) made.2 step.0

-- events after a world that was reached are events
pub reached_since : (earlier : List Event) (from : World) → Reach earlier from → (events : List Event) (now : World) → Since from events now → Reach (events ++ earlier) now
reached_since earlier from reached [] now same = subst (Reach earlier) (sym same) reached
reached_since earlier from reached (event ∷ events) now since = (since.0, reached_since earlier from reached events since.0 since.1, since.2)
