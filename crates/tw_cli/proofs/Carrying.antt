-- What is known of a command behind an opening, before and after its step is written.
use Rattle.std.proofs.Common.{◌≡◌, inl, inr, ◌∙◌, ap, sym, subst, refl, List, ℕ, ◌++◌, ◌<◌, ◌≤◌, ◌^◌, true, false, None, Result, Ok, Err, IfOk, IfErr, arith}
use Rattle.tw_world.specs.Disk.{DiskModel, Tells, IsStable, Rose, FaultsRise, LeavesOnly}
use Rattle.tw_world.specs.Source.{SourceModel}
use Rattle.tw_world.specs.declared.ids.IdWords.{IdWords}
use Rattle.tw_journal.specs.Journal.{IsOpenOn, is_closed}
use Rattle.tw_replica.specs.declared.error.WriteError.TheVariants as writes
use Rattle.tw_state.specs.State.{Stands, applied}
use Rattle.tw_replica.specs.Opening.{IsOpenedReplica, opened_bodies}
use Rattle.tw_replica.specs.Replica.{magic, OpensToEither, IsReplicaOn, held_state, is_replica_closed, OpeningRefused}
use Rattle.tw_replica.specs.Prepared.{step_bodies, prepared_bodies, prepared_state, HasSize, IsWithinLimit, RecordsOrAll, PreparedRefused}
use Rattle.tw_replica.specs.declared.replica.Replica.{Replica}
use Rattle.tw_replica.proofs.PreparedWritten.{prepared_on, prepared_leaves}
use Rattle.tw_words.specs.declared.command.Command.{Command}
use Rattle.tw_commands.specs.Asks.{event_in}
use Rattle.tw_commands.specs.Carried.{Carried, asked_in, carried_out}
use Rattle.tw_commands.specs.Commands.{ids_after}
use Rattle.tw_commands.specs.Ready.{IsDecided}
use Rattle.tw_commands.specs.declared.ready.Ready.{Ready}
use Rattle.tw_changes.specs.declared.request.Request.{Request}
use Rattle.tw_cli.specs.Opening.{HasMore, Stays}
use Rattle.tw_cli.specs.Cause.{may_write, open_cause, input_cause, hook_cause, carry_cause}
use Rattle.tw_cli.specs.Hooks.{celled, Answered, AnswersRefused, HooksKept}
use Rattle.tw_cli.specs.Deciding.{DecidedBy, NotDecided, HasDrawn}
use Rattle.tw_cli.specs.Input.{Took, NotTaken, WithInput, with_input}
use Rattle.tw_cli.specs.Ready.{SparesHours}
use Rattle.tw_cli.specs.Run.{CarriedOut, Refuses, HooksRefused, PassesLimit, HeldBack, HasAsked, HasAnswers, StaysUnread, NotCarried, CanBeCarriedOut, CanCarryOut, Drew, Draws}
use Rattle.tw_cli.specs.Crash.{LeavesRecords, LeavesIf, LeavesAnswered, LeavesCommand, new_of, next_of}
use Rattle.tw_cli.specs.declared.cause.Cause.{Cause}
use Rattle.tw_cli.specs.declared.carry.CarryError.{CarryError}
use Rattle.tw_cli.specs.declared.carry.CarryError.TheVariants as carry
use Rattle.tw_replica.specs.declared.error.OpenError.{OpenError}
use Rattle.tw_replica.specs.declared.error.OpenError.TheVariants as opening
use Rattle.tw_cli.specs.declared.input.InputError.{InputError}
use Rattle.tw_cli.specs.declared.input.InputError.TheVariants as input
use Rattle.tw_cli.specs.declared.cause.Cause.TheVariants as causes
use Rattle.tw_spawn.specs.Spawner.{SpawnerModel, SpawnerKept}
use Rattle.tw_hooks.specs.declared.error.HookError.{HookError}
use Rattle.tw_hooks.specs.declared.error.HookError.TheVariants as hook
use Rattle.tw_model.specs.Ops.{TaskValue}
use Rattle.tw_cli.proofs.Answering.{refused_wants}
use Rattle.tw_cli.proofs.Taking.{took_same, taking_wants}
use Rattle.tw_cli.proofs.Openings.{records_of, ends_with, opens_to, held_is, stays_open, open_wants, rose_later, no_longer, leaves_step}

pub above_limit : (bytes : ℕ) → 2 ^ 30 < bytes → bytes ≤ 2 ^ 30 → ⊥
above_limit bytes above fits = omega (arith, above, fits)

-- what is known of a result that is an Ok, or an Err
pub ok_is : {A E : Type 0} (P : A → Type 0) (r : Result A E) (a : A) → r ≡ Ok a → IfOk r P → P a
ok_is P r a is known = subst (λ r. IfOk r P) is known

pub err_is : {A E : Type 0} (P : E → Type 0) (r : Result A E) (e : E) → r ≡ Err e → IfErr r P → P e
err_is P r e is known = subst (λ r. IfErr r P) is known

-- hooks that were not asked
pub hooks_same : {P : Type 0} (hooks : SpawnerModel P) (request : Request) (p : P) → HooksKept hooks request p p
hooks_same hooks request p = record { untouched = λ none. refl; kept = record { faults = omega arith; tells = refl; names = refl } }

module _ {D S : Type 0} (m : DiskModel D) (sources : SourceModel S) (request : Request) (d0 : D) (i0 i1 : S) where
  -- a run that ends well has decided
  pub done_drew : (old new : IdWords) → Draws m sources request d0 i0 i1 old new causes.Done → WithInput sources request i0 i1 (λ r. Drew m r d0 old new)
  done_drew old new (inl drew) = drew
  done_drew old new (inr (none, inl fault)) = absurd (cc)
  done_drew old new (inr (none, inr (inl want))) = absurd (cc)
  done_drew old new (inr (none, inr (inr (inl failed)))) = absurd (cc)
  done_drew old new (inr (none, inr (inr (inr (inl long))))) = absurd (cc)
  done_drew old new (inr (none, inr (inr (inr (inr (inl damage)))))) = absurd (let e : causes.Done ≡ causes.Damaged damage.0 = damage.1 in cc)
  done_drew old new (inr (none, inr (inr (inr (inr (inr long)))))) = absurd (let e : causes.Done ≡ causes.RecordTooLong long.0 = long.1 in cc)

  -- a crash leaves the same of a command whose text is not printed
  pub leaves_unprinted : {P : Type 0} (hooks : SpawnerModel P) (ids : IdWords) (d1 : D) (p0 p1 : P) → LeavesCommand m sources hooks request ids d0 d1 i0 i1 p0 p1 causes.Done → LeavesCommand m sources hooks request ids d0 d1 i0 i1 p0 p1 causes.OutFault
  leaves_unprinted hooks ids d1 p0 p1 (inl records) = inl records
  leaves_unprinted hooks ids d1 p0 p1 (inr with) = inr (with.0, with.1, record { answers = with.2.answers; answered = with.2.answered; leaves = with.2.leaves })

  -- an opening that is refused draws nothing
  pub opening_draws : (d1 : D) (ids : IdWords) (e : OpenError) → OpeningRefused m d0 d1 e → Draws m sources request d0 i0 i1 ids ids (open_cause e)
  opening_draws d1 ids opening.Disk why = inr (refl, inl refl)
  opening_draws d1 ids (opening.Damaged offset) why = inr (refl, inr (inr (inr (inr (inl (offset, refl))))))
  opening_draws d1 ids opening.Memory why = inr (refl, inr (inl refl))
  opening_draws d1 ids (opening.TooLong bytes) why = inr (refl, inr (inr (inr (inr (inr (bytes, refl, λ tells. (why tells).0))))))

  -- nor does an input that is not taken
  pub taking_draws : (ids : IdWords) (e : InputError) → Draws m sources request d0 i0 i1 ids ids (input_cause e)
  taking_draws ids input.Fault = inr (refl, inr (inr (inl refl)))
  taking_draws ids input.TooLong = inr (refl, inr (inr (inr (inl refl))))
  taking_draws ids input.Memory = inr (refl, inr (inl refl))

  module _ (command : Command) (same : command ≡ request.command) where
    -- an input that is not taken leaves the records
    pub stays_unread : (mid : D) (old : Replica) (e : InputError) → (Tells m d0 → IsOpenedReplica m d0 mid old) → NotTaken sources command i0 i1 e → StaysUnread m sources request d0 mid i0 i1 e
    stays_unread mid old e opened why = record { why = subst (λ k. NotTaken sources k i0 i1 e) same why; state = held_state old; stays = stays_open m d0 mid old opened }

    -- where the command can be carried out, want of memory alone keeps it from its input
    pub unread_wants : {P : Type 0} (hooks : SpawnerModel P) (ids : IdWords) (d1 : D) (p0 p1 : P) (e : InputError) → NotTaken sources command i0 i1 e → CanCarryOut m sources hooks request ids d0 d1 i0 i1 p0 p1 → input_cause e ≡ causes.Memory
    unread_wants hooks ids d1 p0 p1 e why can = taking_wants sources i0 i1 request.command e can.bytes (subst (λ k. NotTaken sources k i0 i1 e) same why) can.takes

    -- what holds of the request with the input that was taken
    module _ (r : Request) (bytes : List ℕ) (took : Took sources command i0 i1 bytes) (is : r ≡ with_input request bytes) where
      there : Took sources request.command i0 i1 bytes
      there = subst (λ k. Took sources k i0 i1 bytes) same took

      pub taken_with : (Q : Request → Type 0) → Q r → WithInput sources request i0 i1 Q
      taken_with Q holds = (bytes, there, subst Q is holds)

      -- what can be carried out can be with it
      pub can_with : {P : Type 0} (hooks : SpawnerModel P) (ids : IdWords) (d1 : D) (p0 p1 : P) → CanCarryOut m sources hooks request ids d0 d1 i0 i1 p0 p1 → CanBeCarriedOut m hooks r ids d0 d1 p0 p1
      can_with hooks ids d1 p0 p1 can =
          subst (λ q. CanBeCarriedOut m hooks q ids d0 d1 p0 p1) (sym is)
          (subst (λ b. CanBeCarriedOut m hooks (with_input request b) ids d0 d1 p0 p1) (sym (took_same sources i0 i1 request.command bytes can.bytes there can.takes)) can.can)

      -- what is known of its hooks is known of those of the request
      pub hooks_with : {P : Type 0} (hooks : SpawnerModel P) (p0 p1 : P) → (event_in r ≡ None → p1 ≡ p0) → SpawnerKept hooks p0 p1 → HooksKept hooks request p0 p1
      hooks_with hooks p0 p1 untouched kept = record { untouched = subst (λ (q : Request). event_in q ≡ None → p1 ≡ p0) is untouched; kept = kept }

      -- a command that is not decided on
      module _ {P : Type 0} (hooks : SpawnerModel P) (ids : IdWords) (mid : D) (p0 p1 : P) (old : Replica) (opened : Tells m d0 → IsOpenedReplica m d0 mid old) where
        pub undecided : (e : CarryError) → NotDecided hooks r ids p0 p1 old e → NotCarried m sources hooks request ids d0 mid i0 i1 p0 p1 e
        undecided (carry.Refused refusal) why = taken_with (λ (q : Request). Refuses m hooks q ids d0 mid p0 p1 refusal)
            (record { state = held_state old; answers = why.0; answered = why.1; is = why.2; stays = stays_open m d0 mid old opened })
        undecided (carry.Hook shown) why = taken_with (λ (q : Request). (e : HookError) × HooksRefused m hooks q ids d0 mid p0 p1 e × (shown ≡ celled e))
            (why.0, record { state = held_state old; refused = why.1; stays = stays_open m d0 mid old opened }, why.2)
        undecided carry.Memory (inl none) = ((held_state old, stays_open m d0 mid old opened), inl none)
        undecided carry.Memory (inr asked) = (
          (held_state old, stays_open m d0 mid old opened),
          inr (taken_with (λ (q : Request). HasAsked m hooks q ids d0 mid p0 p1)
              (record { state = held_state old; opens = λ tells. opens_to m d0 mid old (opened tells); asked = asked })),
        )
        undecided (carry.Open e) why = absurd why
        undecided (carry.Input e) why = absurd why
        undecided (carry.TooLong bytes) why = absurd why
        undecided carry.Disk why = absurd why
        undecided (carry.Load e) why = absurd why
        undecided (carry.HoursTooLong bytes) why = absurd why
        undecided carry.Track why = absurd why

        pub undecided_spares : (e : CarryError) → NotDecided hooks r ids p0 p1 old e → SparesHours e
        undecided_spares (carry.Load e) why = absurd why
        undecided_spares (carry.HoursTooLong bytes) why = absurd why
        undecided_spares carry.Track why = absurd why
        undecided_spares _ why = tt

        -- the identifiers that it leaves
        pub undecided_draws : (new : IdWords) (e : CarryError) → HasDrawn r ids new (held_state old) e → Draws m sources request d0 i0 i1 ids new (carry_cause e)
        undecided_draws new carry.Memory (inl none) = inr (none, inr (inl refl))
        undecided_draws new carry.Memory (inr all) = inl (taken_with (λ (q : Request). Drew m q d0 ids new) (record { state = held_state old; opens = λ tells. opens_to m d0 mid old (opened tells); left = all }))
        undecided_draws new _ all = inl (taken_with (λ (q : Request). Drew m q d0 ids new) (record { state = held_state old; opens = λ tells. opens_to m d0 mid old (opened tells); left = all }))

module _ {D P : Type 0} (m : DiskModel D) (hooks : SpawnerModel P) (request : Request) (ids : IdWords) where
  -- an opening that is refused where the command can be carried out wants memory
  pub opening_wants : (d0 d1 : D) (p0 p1 : P) (e : OpenError) → OpeningRefused m d0 d1 e → CanBeCarriedOut m hooks request ids d0 d1 p0 p1 → open_cause e ≡ causes.Memory
  opening_wants d0 d1 p0 p1 e refused can = open_wants m d0 d1 can.state e can.tells can.opens can.renews can.disk_well refused

  module _ (d0 mid : D) (p0 p1 : P) (old : Replica) (opened : Tells m d0 → IsOpenedReplica m d0 mid old) where
    pub drew : (new : IdWords) → new ≡ ids_after request ids (held_state old) → Drew m request d0 ids new
    drew new all = record { state = held_state old; opens = λ tells. opens_to m d0 mid old (opened tells); left = all }

    -- the state of which it can be carried out is that of the replica that was opened
    pub here : (d1 : D) (can : CanBeCarriedOut m hooks request ids d0 d1 p0 p1) → can.state ≡ held_state old
    here d1 can = held_is m d0 mid old can.state (opened can.tells) can.opens

    -- where it can be carried out, these answers lead to it in the replica that was opened
    module _ (d1 : D) (can : CanBeCarriedOut m hooks request ids d0 d1 p0 p1) (answers : List TaskValue) (answered : Answered hooks request ids p0 p1 (held_state old) answers) where
      pub answered_there : Answered hooks request ids p0 p1 can.state answers
      answered_there = subst (λ s. Answered hooks request ids p0 p1 s answers) (sym (here d1 can)) answered

      can_in : carried_out request ids answers (held_state old) ≡ Ok (can.carried answers answered_there)
      can_in = subst (λ s. carried_out request ids answers s ≡ Ok (can.carried answers answered_there)) (here d1 can) (can.is answers answered_there)

    -- a command that can be carried out is not decided on for want of memory alone
    pub undecided_wants : (e : CarryError) → NotDecided hooks request ids p0 p1 old e → CanBeCarriedOut m hooks request ids d0 mid p0 p1 → carry_cause e ≡ causes.Memory
    undecided_wants (carry.Refused refusal) why can =
        let there : carried_out request ids why.0 (held_state old) ≡ Ok (can.carried why.0 (answered_there mid can why.0 why.1)) = can_in mid can why.0 why.1 in
        let none : carried_out request ids why.0 (held_state old) ≡ Err refusal = why.2 in
        absurd (cc)
    undecided_wants (carry.Hook shown) why can =
        let want : why.0 ≡ hook.Memory = refused_wants hooks p0 p1 request.at.seconds (event_in request) (asked_in request ids can.state) why.0 can.hooks_well
        (subst (λ s. AnswersRefused hooks request ids p0 p1 s why.0) (sym (here mid can)) why.1) in
        ap hook_cause (why.2 ∙ ap celled want)
    undecided_wants carry.Memory why can = refl
    undecided_wants (carry.Open e) why can = absurd why
    undecided_wants (carry.Input e) why can = absurd why
    undecided_wants (carry.TooLong bytes) why can = absurd why
    undecided_wants carry.Disk why can = absurd why
    undecided_wants (carry.Load e) why can = absurd why
    undecided_wants (carry.HoursTooLong bytes) why can = absurd why
    undecided_wants carry.Track why can = absurd why

    module _ (d1 : D) (ready : Ready) (is : DecidedBy hooks request ids p0 p1 old ready) where
      abbrev pub made : IsDecided request ids is.answers old ready
      made = is.decided

      -- what the command comes to
      come : Carried
      come = record { step = made.step; new = prepared_state ready.prepared; text = ready.text.items }

      comes : carried_out request ids is.answers (held_state old) ≡ Ok come
      unfolding come
      comes = made.is

      -- what was written is what the command comes to
      pub runs_so : (new : Replica) → held_state new ≡ prepared_state ready.prepared
          → ((bodies : List (List ℕ)) → IsOpenOn m magic ready.prepared.journal mid bodies → IsOpenOn m magic new.journal d1 (bodies ++ prepared_bodies ready.prepared)) → IsWithinLimit (prepared_bodies ready.prepared)
          → (run : CarriedOut m hooks request ids d0 d1 p0 p1) × (ready.text.items ≡ run.carried.text) × (held_state old ≡ run.old) × (prepared_state ready.prepared ≡ run.carried.new)
      unfolding come
      runs_so new state opens within = (record { old = held_state old; answers = is.answers; answered = is.answered; carried = come; is = comes; within = subst IsWithinLimit made.prepared.bodies within; disk = λ tells. by (opened tells) }, refl, refl, refl)
        where
          by : IsOpenedReplica m d0 mid old → HasMore (m.seen d0) (m.seen d1) (step_bodies made.step) (held_state old) (prepared_state ready.prepared) × IsStable m d1
          by o =
              let left : List (List ℕ) = opened_bodies (m.seen d0) (held_state old) o.bodies in
              let n : IsReplicaOn m new d1 (left ++ step_bodies made.step) = prepared_on m old made.step ready.prepared made.prepared left mid d1 o.now new state opens in
              (record { bodies = o.bodies; had = o.records; stood = o.stands; has = records_of m d1 new (left ++ step_bodies made.step) n; end = ends_with m d1 new (left ++ step_bodies made.step) n; stands = subst (Stands (left ++ step_bodies made.step)) state n.stands }, n.open_on.rest.settled)

      -- it was decided on, and nothing is written
      pub held_back : d1 ≡ mid → HeldBack m hooks request ids d0 d1 p0 p1
      unfolding come
      held_back same = record { state = held_state old; answers = is.answers; answered = is.answered; carried = come; is = comes; stays = subst (λ d. Stays m d0 d (held_state old)) (sym same) (stays_open m d0 mid old opened) }

      -- where it can be carried out, it leads to what is prepared
      pub can_leads : (can : CanBeCarriedOut m hooks request ids d0 d1 p0 p1) → prepared_state ready.prepared ≡ (can.carried is.answers (answered_there d1 can is.answers is.answered)).new
      can_leads can =
          let there : carried_out request ids is.answers (held_state old) ≡ Ok (can.carried is.answers (answered_there d1 can is.answers is.answered)) = can_in d1 can is.answers is.answered in
          let same : record { step = made.step; new = prepared_state ready.prepared; text = ready.text.items } ≡ can.carried is.answers (answered_there d1 can is.answers is.answered) = (let e = made.is in cc) in
          ap (λ (c : Carried). c.new) same

      -- a write that passes the limit
      pub passes_limit : (bytes : ℕ) → PreparedRefused m ready.prepared mid d1 (writes.TooLong bytes) → PassesLimit m hooks request ids d0 d1 p0 p1 bytes
      unfolding come
      passes_limit bytes refused = record {
        state = held_state old;
        answers = is.answers;
        answered = is.answered;
        carried = come;
        is = comes;
        size = subst (λ bodies. HasSize bodies bytes) made.prepared.bodies refused.0;
        above = refused.1;
        stays = subst (λ d. Stays m d0 d (held_state old)) (sym refused.2) (stays_open m d0 mid old opened);
      }

      pub fits_always : (bytes : ℕ) → PreparedRefused m ready.prepared mid d1 (writes.TooLong bytes) → CanBeCarriedOut m hooks request ids d0 d1 p0 p1 → ⊥
      fits_always bytes refused can =
          let a : Answered hooks request ids p0 p1 can.state is.answers = answered_there d1 can is.answers is.answered in
          let there : carried_out request ids is.answers (held_state old) ≡ Ok (can.carried is.answers a) = can_in d1 can is.answers is.answered in
          let same : record { step = made.step; new = prepared_state ready.prepared; text = ready.text.items } ≡ can.carried is.answers a = (let e = made.is in cc) in
          let size : HasSize (step_bodies made.step) bytes = subst (λ bodies. HasSize bodies bytes) made.prepared.bodies refused.0 in
          above_limit bytes refused.1 (can.fits is.answers a bytes (subst (λ (c : Carried). HasSize (step_bodies c.step) bytes) same size))

      -- a write that fails
      pub fails_later : FaultsRise m d0 mid → PreparedRefused m ready.prepared mid d1 writes.Disk → Rose (m.faults d0) (m.faults d1)
      fails_later kept refused = rose_later (m.faults d0) (m.faults mid) (m.faults d1) kept.faults refused

      -- its hooks have answered
      pub has_answers : HasAnswers m hooks request ids d0 d1 p0 p1
      has_answers = record { state = held_state old; opens = λ tells. opens_to m d0 mid old (opened tells); answers = is.answers; answered = is.answered }

      -- the journal of a replica that was opened is not closed
      pub not_closed : is_replica_closed old ≡ false → PreparedRefused m ready.prepared mid d1 writes.Closed → ⊥
      not_closed live refused = no_longer (is_replica_closed old) (ap is_closed (sym made.prepared.journal) ∙ refused.0) live

      -- the state after the step is the next one
      pub leads : applied (held_state old) made.step ≡ next_of request ids is.answers (held_state old)
      leads = made.prepared.leads ∙ sym (ap new_of made.is)

      -- a crash while the step is written behind the opening
      pub leaves_written : (cause : Cause) → may_write cause ≡ true → LeavesRecords m d0 mid → ((bodies : List (List ℕ)) → IsOpenOn m magic ready.prepared.journal mid bodies → LeavesOnly m mid d1 (RecordsOrAll bodies (prepared_bodies ready.prepared)))
          → LeavesAnswered m hooks request ids d0 d1 p0 p1 cause
      leaves_written cause may any_moment writes = record {
        answers = is.answers;
        answered = λ tells state opens. subst (λ s. Answered hooks request ids p0 p1 s is.answers) (sym (held_is m d0 mid old state (opened tells) opens)) is.answered;
        leaves = subst (LeavesIf m (next_of request ids is.answers) d0 d1) (sym may) (leaves_step m (next_of request ids is.answers) d0 mid d1 old any_moment opened
            (λ bodies on. subst (λ next. LeavesOnly m mid d1 (OpensToEither (held_state old) next)) leads (prepared_leaves m old made.step ready.prepared made.prepared bodies mid d1 on writes)));
      }
