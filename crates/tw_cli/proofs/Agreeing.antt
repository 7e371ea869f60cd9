-- What a run does to the agreement of a replica with the chain.
use Rattle.std.proofs.Common.{◌≡◌, ◌⊎◌, inl, inr, ⊎_elim, sym, subst, refl, List, ℕ, ◌++◌, IsTrue, Option, Some, None, Result, Ok, Err}
use Rattle.tw_world.specs.Disk.{DiskModel, Tells, LeavesOnly}
use Rattle.tw_world.specs.Source.{SourceModel}
use Rattle.tw_spawn.specs.Spawner.{SpawnerModel}
use Rattle.tw_model.specs.Ops.{TaskValue}
use Rattle.tw_world.proofs.Moments.{CountsNow, weaker}
use Rattle.tw_journal.specs.Form.{Records}
use Rattle.tw_journal.proofs.Unique.{one_records}
use Rattle.tw_protocol.specs.Chain.{Version, Grows}
use Rattle.tw_http.specs.Link.{LinkModel, IsHonest, IsChainOf, IsServedChain}
use Rattle.tw_state.specs.State.{State}
use Rattle.tw_replica.specs.Replica.{magic, OpensTo, OpensToEither}
use Rattle.tw_sync.specs.Replies.Answers.{IsLinkKept}
use Rattle.tw_outcome.specs.Agreement.{Agrees}
use Rattle.tw_outcome.specs.Start.{starts_at}
use Rattle.tw_sync.specs.Start.{Start, from_state, IsSoundStart}
use Rattle.tw_sync.specs.Start.Start.{Base}
use Rattle.tw_sync.proofs.ReplicaMoved.{starts_soundly}
use Rattle.tw_sync.specs.Sync.{server_chain, IsEndIn, IsSyncOf}
use Rattle.tw_sync.specs.declared.report.SyncReport.{SyncReport}
use Rattle.tw_sync.proofs.Folds.{agrees_is_kept}
use Rattle.tw_sync.proofs.Served.{grows_same}
use Rattle.tw_state.proofs.CommittedChanges.{changes_are_group}
use Rattle.tw_sync.proofs.LocalSteps.{commit_agrees, undo_agrees}
use Rattle.tw_outcome.specs.End.Answer.{Done as DoneSync}
use Rattle.tw_outcome.proofs.Ends.{end_agrees as outcome_agrees}
use Rattle.tw_sync.specs.Ends.End.{counts_of}
use Rattle.tw_world.specs.declared.ids.IdWords.{IdWords}
use Rattle.tw_model.specs.declared.changes.Change.{Change}
use Rattle.tw_model.specs.Changes.{changed_all, ops_of_all, group_of}
use Rattle.tw_state.specs.State.{applied}
use Rattle.tw_replica.specs.Opening.{IsOpening, opened_bodies}
use Rattle.tw_replica.specs.Prepared.{step_bodies}
use Rattle.tw_changes.specs.Marks.{mask_changes}
use Rattle.tw_commands.specs.Plan.{Plan, Work, step_in}
use Rattle.tw_commands.specs.Plan.Work.{Changes, TakeBack}
use Rattle.tw_commands.specs.Commands.{plan_of}
use Rattle.tw_commands.specs.Asks.{answered_with}
use Rattle.tw_commands.specs.Carried.{Carried, carried_by, carried_out}
use Rattle.tw_changes.specs.declared.request.Request.{Request}
use Rattle.tw_changes.specs.declared.refusal.Refusal.{Refusal}
use Rattle.tw_commands.proofs.Applied.{by_plan}
use Rattle.tw_cli.specs.Opening.{HasMore}
use Rattle.tw_cli.specs.Input.{with_input}
use Rattle.tw_cli.specs.Run.{CarriedOut}
use Rattle.tw_cli.specs.Crash.{LeavesRecords, IsStepOf, LeavesBy, LeavesCommand, LeavesOneEnd, new_of, next_of}
use Rattle.tw_cli.specs.Syncing.{Synced}
use Rattle.tw_cli.specs.Whole.{Models, Outside, from_link, GivesFrom, IsHonestFor, IsSoundFor, IsRunFrom, IsRun}
use Rattle.tw_cli.specs.Agreement.{OpensAgreeing, AllAgree, StaysAgreeing, AgreementStays}
use Rattle.tw_cli.proofs.Starting.{if_sound}
use Rattle.tw_cli.specs.declared.asked.Job.{Job}
use Rattle.tw_cli.specs.declared.asked.Job.TheVariants.{Here, Sync, Generate}
use Rattle.tw_cli.specs.declared.asked.LineError.{LineError}
use Rattle.tw_settings.specs.declared.server.ServerSettings.{ServerSettings}
use Rattle.tw_cli.specs.declared.cause.Cause.{Cause}
use Rattle.tw_cli.specs.declared.cause.Cause.TheVariants.{Done, OutFault}
use Rattle.tw_cli.proofs.Openings.{opens_one, leaves_either}

some_is : (a b : State) → Some a ≡ Some b → a ≡ b
some_is a b e = cc

no_state : (s : State) → None ≡ Some s → ⊥
no_state s e = absurd (cc)

-- each state that this one leads to agrees with the chain
abbrev LeadsAgreeing : List Version → Option State → Type 0
LeadsAgreeing chain next = (s : State) → next ≡ Some s → Agrees s chain

-- the step of a command is a commit or an undo, which keep agreement
work_agrees : (request : Request) (old new : State) (work : Work) (chain : List Version) → Agrees old chain → applied old (step_in request.at old work) ≡ Some new → Agrees new chain
work_agrees request old new (Changes renumber changes marks) chain a e =
    let all : List Change = changes ++ mask_changes request.at (changed_all old.tasks changes) marks in
    commit_agrees renumber (group_of (ops_of_all old.tasks all request.at)) old new chain (changes_are_group old.tasks all request.at) a e
work_agrees request old new TakeBack chain a e = undo_agrees old new chain a e

carried_agrees : (request : Request) (ids : IdWords) (answers : List TaskValue) (old : State) (c : Carried) (chain : List Version) → carried_out request ids answers old ≡ Ok c → Agrees old chain → Agrees c.new chain
carried_agrees request ids answers old c chain e a = by (answered_with answers old.tasks (plan_of request ids old)) e
  where
    by : (planned : Result Plan Refusal) → carried_by request old planned ≡ Ok c → Agrees c.new chain
    by (Err refusal) f = absurd cc
    by (Ok plan) f = work_agrees request old c.new plan.work chain a (by_plan request old plan c f)

command_agrees : (request : Request) (ids : IdWords) (answers : List TaskValue) (old : State) (chain : List Version) → Agrees old chain → LeadsAgreeing chain (next_of request ids answers old)
command_agrees request ids answers old chain a = λ s e. by (carried_out request ids answers old) refl s e
  where
    by : (r : Result Carried Refusal) → carried_out request ids answers old ≡ r → (s : State) → new_of r ≡ Some s → Agrees s chain
    by (Err refusal) is s e = absurd (no_state s e)
    by (Ok c) is s e = subst (λ t. Agrees t chain) (some_is c.new s e) (carried_agrees request ids answers old c chain is a)

either_agrees : (chain : List Version) (state : State) (next : Option State) (file : List ℕ) → Agrees state chain → LeadsAgreeing chain next → OpensToEither state next file → OpensAgreeing chain file
either_agrees chain state next file a leads (inl same) = (state, same, a)
either_agrees chain state None file a leads (inr none) = absurd none
either_agrees chain state (Some s) file a leads (inr moved) = (s, moved, leads s refl)

opens_grown : (old new : List Version) (file : List ℕ) → Grows old new → OpensAgreeing old file → OpensAgreeing new file
opens_grown old new file g o = (o.0, o.1, agrees_is_kept o.0 old new o.2 g)

module _ {D : Type 0} (m : DiskModel D) (d0 d1 : D) (chain now : List Version) where
  module _ (here : OpensAgreeing chain (m.seen d0)) (grows : Grows chain now) where
    still : Agrees here.0 now
    still = agrees_is_kept here.0 chain now here.2 grows

    image_agrees : (file : List ℕ) → IsOpening m d0 file → m.leaves d0 file ⊎ OpensAgreeing now file
    image_agrees file (inl (inl was)) = inl was
    image_agrees file (inr alike) = inr (alike.state, alike.second, subst (λ s. Agrees s now) (opens_one (m.seen d0) here.0 alike.state here.1 alike.first) still)
    image_agrees file (inl (inr same)) =
        let bodies : here.1.bodies ≡ same.0 = one_records magic (m.seen d0) here.1.bodies same.0 here.1.records same.1 in
        inr (here.0, record { bodies = here.1.bodies; records = subst (Records magic file) (sym bodies) same.2; stands = here.1.stands }, still)

    step_agrees : (next : State → Option State) → LeadsAgreeing now (next here.0) → (file : List ℕ) → IsStepOf (m.seen d0) next file → OpensAgreeing now file
    step_agrees next leads file step =
        let is : step.state ≡ here.0 = opens_one (m.seen d0) step.state here.0 step.opened here.1 in
        either_agrees now here.0 (next here.0) file still leads (subst (λ s. OpensToEither s (next s) file) is step.opens)

    -- what a crash leaves: an image that it could leave before, or a replica that agrees
    records_agree : LeavesRecords m d0 d1 → Tells m d0 → LeavesOnly m d0 d1 (λ file. m.leaves d0 file ⊎ OpensAgreeing now file)
    records_agree run tells = weaker m d0 d1 (IsOpening m d0) (λ file. m.leaves d0 file ⊎ OpensAgreeing now file) (run tells) image_agrees

    by_cause : (next : State → Option State) → LeadsAgreeing now (next here.0) → (cause : Cause) → LeavesBy m next d0 d1 cause → Tells m d0 → LeavesOnly m d0 d1 (λ file. m.leaves d0 file ⊎ OpensAgreeing now file)
    by_cause next leads cause run tells =
        weaker m d0 d1 (λ file. IsOpening m d0 file ⊎ IsStepOf (m.seen d0) next file) (λ file. m.leaves d0 file ⊎ OpensAgreeing now file) (leaves_either m next d0 d1 cause run tells)
        (λ file left. ⊎_elim (image_agrees file) (λ step. inr (step_agrees next leads file step)) left)

    by_command : {S P : Type 0} (sources : SourceModel S) (hooks : SpawnerModel P) (i0 i1 : S) (p0 p1 : P) (request : Request) (ids : IdWords) (cause : Cause) → LeavesCommand m sources hooks request ids d0 d1 i0 i1 p0 p1 cause → Tells m d0 → LeavesOnly m d0 d1 (λ file. m.leaves d0 file ⊎ OpensAgreeing now file)
    by_command sources hooks i0 i1 p0 p1 request ids cause (inl records) tells = records_agree records tells
    by_command sources hooks i0 i1 p0 p1 request ids cause (inr with) tells =
        let r : Request = with_input request with.0 in
        by_cause (next_of r ids with.2.answers) (command_agrees r ids with.2.answers here.0 now still) cause with.2.leaves tells

  -- the records that a run has left stand for a state that agrees with the chain
  more_agrees : (more : List (List ℕ)) (state old new : State) → OpensTo (m.seen d0) state → Agrees state chain → HasMore (m.seen d0) (m.seen d1) more old new → (Agrees old chain → Agrees new now) → OpensAgreeing now (m.seen d1)
  more_agrees more state old new opens a has leads =
      let is : state ≡ old = opens_one (m.seen d0) state old opens (record { bodies = has.bodies; records = has.had; stands = has.stood }) in
      (new, record { bodies = opened_bodies (m.seen d0) old has.bodies ++ more; records = has.has; stands = has.stands }, leads (subst (λ s. Agrees s chain) is a))

  carried_out_agrees : {P : Type 0} (hooks : SpawnerModel P) (p0 p1 : P) (request : Request) (ids : IdWords) → CarriedOut m hooks request ids d0 d1 p0 p1 → now ≡ chain → Tells m d0 → OpensAgreeing chain (m.seen d0) → OpensAgreeing now (m.seen d1)
  carried_out_agrees hooks p0 p1 request ids run same tells here =
      more_agrees (step_bodies run.carried.step) here.0 run.old run.carried.new here.1 here.2 (run.disk tells).0
      (λ a. subst (Agrees run.carried.new) (sym same) (carried_agrees request ids run.answers run.old run.carried chain run.is a))

module _ {D L : Type 0} (m : DiskModel D) (links : LinkModel L) (d0 d1 : D) (l0 l1 : L) where
  -- what is known of the chain over an honest link
  whole_chain : (client : List ℕ) → ((link : L) → IsChainOf links link) → IsLinkKept links l0 l1 → IsHonest links l0 client → IsServedChain (links.chain l1)
  whole_chain client tells_chain kept h = tells_chain l1 (record { honest = subst IsTrue (sym kept.honest) h.honest; tells = subst IsTrue (sym kept.tells_chain) h.tells })

  end_agrees : (start : Start) (state : State) (next : Option State) → IsSoundStart start (links.chain l1) → IsServedChain (links.chain l1) → Agrees state (links.chain l0) → IsSyncOf start state next → IsEndIn start state (server_chain links l0) (server_chain links l1) next → LeadsAgreeing (links.chain l1) next
  end_agrees start state None sound chain a made end = λ s e. absurd (no_state s e)
  end_agrees start state (Some next) sound chain a made end = λ s e. subst (λ t. Agrees t (links.chain l1)) (some_is next s e)
      (outcome_agrees end.0 state (starts_at (from_state start state)) next (server_chain links l0) (server_chain links l1) chain.whole a (starts_soundly start state (links.chain l1) made.1.may sound) end.1)

  synced_agrees : ((link : L) → IsChainOf links link) → IsLinkKept links l0 l1 → (server : ServerSettings) (start : Start) → IsSoundStart start (links.chain l1) → (report : SyncReport) → Synced m links server start d0 d1 l0 l1 report → Tells m d0 → IsHonest links l0 server.client
      → OpensAgreeing (links.chain l0) (m.seen d0) → OpensAgreeing (links.chain l1) (m.seen d1)
  synced_agrees tells_chain kept server start sound report run tells honest here =
      let has = run.disk tells in
      more_agrees m d0 d1 (links.chain l0) (links.chain l1) has.bodies here.0 run.old run.new here.1 here.2 has.more
      (λ a. outcome_agrees (DoneSync (counts_of report)) run.old (starts_at (from_state start run.old)) run.new (server_chain links l0) (server_chain links l1) (whole_chain server.client tells_chain kept honest).whole a (starts_soundly start run.old (links.chain l1) run.may sound) (run.ended honest))

-- ---- a run

module _ {D : Type 0} (m : DiskModel D) (seen_may_stay : (disk : D) → Tells m disk → m.leaves disk (m.seen disk)) (counts_now : CountsNow m) (d0 d1 : D) (tells : Tells m d0)
    (chain now : List Version) (grows : Grows chain now) (cause : Cause) where
  stays_by : (OpensAgreeing chain (m.seen d0) → LeavesOnly m d0 d1 (λ file. m.leaves d0 file ⊎ OpensAgreeing now file))
      → ((cause ≡ Done) ⊎ (cause ≡ OutFault) → OpensAgreeing chain (m.seen d0) → OpensAgreeing now (m.seen d1)) → StaysAgreeing m chain now d0 d1 cause
  stays_by from_bytes done = record {
    any_moment = always;
    after = λ all file left. (always all).each file (counts_now d1 (m.moment d0) file (always all).later left);
    unsettled = from_bytes;
    done = done;
  }
    where
      always : AllAgree m chain d0 → LeavesOnly m d0 d1 (OpensAgreeing now)
      always all = weaker m d0 d1 (λ file. m.leaves d0 file ⊎ OpensAgreeing now file) (OpensAgreeing now) (from_bytes (all (m.seen d0) (seen_may_stay d0 tells)))
          (λ file left. ⊎_elim (λ was. opens_grown chain now file grows (all file was)) (λ agrees. agrees) left)

-- a run that uses no link, over any chain
module _ {D S O L P F J : Type 0} (m : Models D S O L P F J) (w : Outside D S O L P F J) (seen_may_stay : (disk : D) → Tells m.disk disk → m.disk.leaves disk (m.disk.seen disk))
    (counts_now : CountsNow m.disk) (tells : Tells m.disk w.d0) (chain : List Version) where
  command_done : (request : Request) (ids : IdWords) (cause : Cause) → GivesFrom m Base (Ok (Here request)) ids w cause → (cause ≡ Done) ⊎ (cause ≡ OutFault)
      → OpensAgreeing chain (m.disk.seen w.d0) → OpensAgreeing chain (m.disk.seen w.d1)
  command_done request ids cause gives (inl done) here =
      let run : GivesFrom m Base (Ok (Here request)) ids w Done = subst (GivesFrom m Base (Ok (Here request)) ids w) done gives in
      carried_out_agrees m.disk w.d0 w.d1 chain chain m.spawner w.p0 w.p1 (with_input request run.0.0) ids run.0.2.0 refl tells here
  command_done request ids cause gives (inr fault) here =
      let run : GivesFrom m Base (Ok (Here request)) ids w OutFault = subst (GivesFrom m Base (Ok (Here request)) ids w) fault gives in
      carried_out_agrees m.disk w.d0 w.d1 chain chain m.spawner w.p0 w.p1 (with_input request run.0.0.0) ids run.0.0.2.0 refl tells here

  command_stays : (request : Request) (ids : IdWords) (cause : Cause) → IsRunFrom m Base (Ok (Here request)) ids w cause → StaysAgreeing m.disk chain chain w.d0 w.d1 cause
  command_stays request ids cause run =
      stays_by m.disk seen_may_stay counts_now w.d0 w.d1 tells chain chain (grows_same chain) cause
      (λ here. by_command m.disk w.d0 w.d1 chain chain here (grows_same chain) m.source m.spawner w.i0 w.i1 w.p0 w.p1 request ids cause run.any_moment tells)
      (command_done request ids cause run.gives)

  nothing_stays : (cause : Cause) → LeavesRecords m.disk w.d0 w.d1 → w.d1 ≡ w.d0 → StaysAgreeing m.disk chain chain w.d0 w.d1 cause
  nothing_stays cause left same =
      stays_by m.disk seen_may_stay counts_now w.d0 w.d1 tells chain chain (grows_same chain) cause
      (λ here. records_agree m.disk w.d0 w.d1 chain chain here (grows_same chain) left tells)
      (λ which here. subst (λ d. OpensAgreeing chain (m.disk.seen d)) (sym same) here)

-- a sync
module _ {D S O L P F J : Type 0} (m : Models D S O L P F J) (w : Outside D S O L P F J) (tells_chain : (link : L) → IsChainOf m.link link)
    (seen_may_stay : (disk : D) → Tells m.disk disk → m.disk.leaves disk (m.disk.seen disk)) (counts_now : CountsNow m.disk) (tells : Tells m.disk w.d0) (ids : IdWords) (server : ServerSettings) where
  sync_done : (start : Start) → IsSoundStart start (m.link.chain w.l1) → IsLinkKept m.link w.l0 w.l1 → (cause : Cause) → GivesFrom m start (Ok (Sync server)) ids w cause
      → IsHonestFor m.link (Ok (Sync server)) w.l0 → (cause ≡ Done) ⊎ (cause ≡ OutFault) → OpensAgreeing (m.link.chain w.l0) (m.disk.seen w.d0)
      → OpensAgreeing (m.link.chain w.l1) (m.disk.seen w.d1)
  sync_done start sound kept cause gives honest (inl done) here =
      let run : GivesFrom m start (Ok (Sync server)) ids w Done = subst (GivesFrom m start (Ok (Sync server)) ids w) done gives in
      synced_agrees m.disk m.link w.d0 w.d1 w.l0 w.l1 tells_chain kept server start sound run.0 run.1 tells honest here
  sync_done start sound kept cause gives honest (inr fault) here =
      let run : GivesFrom m start (Ok (Sync server)) ids w OutFault = subst (GivesFrom m start (Ok (Sync server)) ids w) fault gives in
      synced_agrees m.disk m.link w.d0 w.d1 w.l0 w.l1 tells_chain kept server start sound run.0.0 run.0.1 tells honest here

  sync_stays : (start : Start) → IsSoundStart start (m.link.chain w.l1) → (cause : Cause) → IsRunFrom m start (Ok (Sync server)) ids w cause → IsHonestFor m.link (Ok (Sync server)) w.l0
      → StaysAgreeing m.disk (m.link.chain w.l0) (m.link.chain w.l1) w.d0 w.d1 cause
  sync_stays start sound cause run honest =
      let grows = run.grows honest in
      let r : LeavesOneEnd m.disk m.link server start w.d0 w.d1 w.l0 w.l1 cause = run.any_moment tells in
      stays_by m.disk seen_may_stay counts_now w.d0 w.d1 tells (m.link.chain w.l0) (m.link.chain w.l1) grows cause
      (λ here.
      by_cause m.disk w.d0 w.d1 (m.link.chain w.l0) (m.link.chain w.l1) here grows (λ state. r.next)
      (end_agrees m.disk m.link w.d0 w.d1 w.l0 w.l1 start here.0 r.next sound (whole_chain m.disk m.link w.d0 w.d1 w.l0 w.l1 server.client tells_chain run.link_kept honest) here.2 (r.made here.0 here.1) (r.end honest here.0 here.1)) cause r.leaves tells)
      (sync_done start sound run.link_kept cause run.gives honest)

-- a chain that grew before it keeps agreement too
earlier : {D : Type 0} (m : DiskModel D) (d0 d1 : D) (chain begun now : List Version) (cause : Cause) → Grows chain begun → StaysAgreeing m begun now d0 d1 cause → StaysAgreeing m chain now d0 d1 cause
earlier m d0 d1 chain begun now cause g a = record {
  any_moment = λ all. a.any_moment (λ file left. opens_grown chain begun file g (all file left));
  after = λ all. a.after (λ file left. opens_grown chain begun file g (all file left));
  unsettled = λ here. a.unsettled (opens_grown chain begun (m.seen d0) g here);
  done = λ which here. a.done which (opens_grown chain begun (m.seen d0) g here);
}

module _ {D S O L P F J : Type 0} (m : Models D S O L P F J) (w : Outside D S O L P F J) (tells_chain : (link : L) → IsChainOf m.link link) where
  pub agreement_stays : ((disk : D) → Tells m.disk disk → m.disk.leaves disk (m.disk.seen disk)) → CountsNow m.disk → (asked : Result Job LineError) (old new : IdWords) (cause : Cause)
      → IsRun m asked old new w cause → Tells m.disk w.d0 → IsHonestFor m.link asked w.l0 → IsSoundFor m.disk m.link asked w.d0 w.l0 w.l1 → AgreementStays m.disk m.link asked w cause
  agreement_stays seen_may_stay counts_now (Ok (Here request)) old new cause run tells honest sound chain now is =
      subst (λ n. StaysAgreeing m.disk chain n w.d0 w.d1 cause) (sym is) (command_stays m w seen_may_stay counts_now tells chain request old cause run.run)
  agreement_stays seen_may_stay counts_now (Ok (Sync server)) old new cause run tells honest sound chain now is =
      let stays : StaysAgreeing m.disk (m.link.chain w.l0) (m.link.chain w.l1) w.d0 w.d1 cause =
      if_sound m.disk m.link w.d0 w.l0 w.l1 cause (Ok (Sync server)) (λ start begun. IsRunFrom m start (Ok (Sync server)) old (from_link w begun) cause)
      (StaysAgreeing m.disk (m.link.chain w.l0) (m.link.chain w.l1) w.d0 w.d1 cause) tells honest sound
      (λ start begun at known.
      earlier m.disk w.d0 w.d1 (m.link.chain w.l0) (m.link.chain begun) (m.link.chain w.l1) cause at.grows
      (sync_stays m (from_link w begun) tells_chain seen_may_stay counts_now tells old server start at.sound cause known at.honest))
      run.run in
      subst (λ c. StaysAgreeing m.disk c now w.d0 w.d1 cause) (sym is.0) (subst (λ n. StaysAgreeing m.disk (m.link.chain w.l0) n w.d0 w.d1 cause) (sym is.1) stays)
  agreement_stays seen_may_stay counts_now (Ok (Generate line settings)) old new cause run tells honest sound chain now is =
      subst (λ n. StaysAgreeing m.disk chain n w.d0 w.d1 cause) (sym is) (nothing_stays m w seen_may_stay counts_now tells chain cause run.run.any_moment run.run.gives.1)
  agreement_stays seen_may_stay counts_now (Err error) old new cause run tells honest sound chain now is =
      subst (λ n. StaysAgreeing m.disk chain n w.d0 w.d1 cause) (sym is) (nothing_stays m w seen_may_stay counts_now tells chain cause run.run.any_moment run.run.gives.1)
