-- A sync is refused: it was stopped, or its record was not written.
use Rattle.std.proofs.Common.{◌≡◌, ◌⊎◌, ℕ, inl, inr, false, length, List, [], ◌++◌, refl, sym, subst, ap, ◌∙◌, arith}
use Rattle.std.proofs.lemmas.Bool.{true≢false}
use Rattle.tw_world.specs.Disk.{DiskModel}
use Rattle.tw_protocol.specs.Chain.{Version, Grows, same_id}
use Rattle.tw_journal.specs.Journal.{is_closed}
use Rattle.tw_journal.specs.declared.error.AppendError.{AppendError}
use Rattle.tw_journal.specs.declared.error.AppendError.TheVariants as journal
use Rattle.tw_http.specs.Link.{LinkModel}
use Rattle.tw_bodies.specs.Body.{Step, body_of}
use Rattle.tw_state.specs.State.{State}
use Rattle.tw_state.specs.Core.{state_of}
use Rattle.tw_replica.specs.Replica.{IsSame, StepRefused}
use Rattle.tw_replica.specs.declared.error.RecordError.{RecordError}
use Rattle.tw_replica.specs.declared.error.RecordError.TheVariants as records
use Rattle.tw_replica.specs.declared.replica.Replica.{Replica}
use Rattle.tw_path.specs.Path.{Leg}
use Rattle.tw_outcome.specs.End.{ServerChain}
use Rattle.tw_outcome.specs.End.Answer.{Unwritten}
use Rattle.tw_sync.specs.Ends.End.{answer_to, IsStopping}
use Rattle.tw_sync.specs.Replies.Heard.{Heard, Hears, HearsUntil}
use Rattle.tw_sync.specs.Ends.Refused.{GoesOnFrom, GoesOnFromAllButLast, GoesOnToRefusal, HeardRefused, JournalRefused, SyncRefused, IsMovedOrSame, MayAdd}
use Rattle.tw_sync.specs.Start.{Start, from_state, IsKnownStart}
use Rattle.tw_sync.specs.Start.Start.{Base, Snapshot}
use Rattle.tw_sync.specs.Sync.{server_chain}
use Rattle.tw_sync.specs.Way.{IsOne, IsUnpassedAt, IsUnpassed, TellsOf, WentOn}
use Rattle.tw_sync.specs.Replies.Measured.{IsRecordLen, IsMeasured}
use Rattle.tw_sync.specs.Ends.Honest.{HonestRefused, RestsOnPulled, RestsOnTold, IsLongRecord}
use Rattle.tw_sync.specs.Way.Cursor.{place, IsIn, LiesIn}
use Rattle.tw_sync.specs.Way.Progress.{IsCause}
use Rattle.tw_sync.specs.Ends.Causes.{of_record}
use Rattle.tw_sync.specs.Ends.Moved.{row_size, IsNotMoved}
use Rattle.tw_sync.specs.declared.error.ReplyKind.{ReplyKind}
use Rattle.tw_sync.specs.declared.error.ReplyKind.TheVariants.{Cut, Head, Header, Length, TooLong, Parent, Nil, Status}
use Rattle.tw_sync.specs.declared.error.SyncError.{SyncError}
use Rattle.tw_sync.specs.declared.error.SyncError.TheVariants as errors
use Rattle.tw_sync.proofs.CursorInChain.{between_none, cut_grows}
use Rattle.tw_sync.proofs.ReplicaMoved.{apart}

-- ---- what it answers, and what it leaves

-- a cause of the link or the server stops a sync
pub stopping : {L : Type 0} (m : LinkModel L) (first now : L) (e : SyncError) → IsCause m first now e → ¬ (e ≡ errors.Memory) → IsStopping e
stopping m first now errors.Memory c other = absurd (other refl)
stopping m first now (errors.Journal e) c other = absurd c
stopping m first now errors.Link c other = refl
stopping m first now (errors.Reply kind) c other = refl
stopping m first now (errors.Gone base) c other = refl
stopping m first now (errors.Busy parent) c other = refl
stopping m first now (errors.OutOfSync base parent) c other = refl
stopping m first now (errors.Segment version) c other = refl
stopping m first now (errors.SegmentTooLong bytes) c other = refl
stopping m first now (errors.PullTooLong bytes) c other = refl

pub stopped_refused : {D L : Type 0} (m : DiskModel D) (links : LinkModel L) (old new : Replica) (before after : D) (first last : L) (e : SyncError) → is_closed old.journal ≡ false → IsCause links first last e → ¬ (e ≡ errors.Memory)
    → (new.core.base ≡ old.core.base → IsSame old new before after) → SyncRefused m links old new before after first last e
stopped_refused m links old new before after first last e live cause other stays = by e cause other
  where
    same : IsMovedOrSame old new before after
    same = record { stays = stays; is_open = live }

    by : (x : SyncError) → IsCause links first last x → ¬ (x ≡ errors.Memory) → SyncRefused m links old new before after first last x
    by errors.Memory c n = absurd (n refl)
    by (errors.Journal x) c n = absurd c
    by errors.Link c n = (c, same)
    by (errors.SegmentTooLong bytes) c n = (c, same)
    by (errors.PullTooLong bytes) c n = (c, same)
    by (errors.Reply kind) c n = same
    by (errors.Gone base) c n = same
    by (errors.Busy parent) c n = same
    by (errors.OutOfSync base parent) c n = same
    by (errors.Segment version) c n = same

-- a sync whose record is not written answers so
pub answers_unwritten : (e : RecordError) → answer_to (of_record e) ≡ Unwritten
answers_unwritten (records.Journal e) = refl
answers_unwritten records.Memory = refl

pub never_stopping : (e : RecordError) → ¬ (IsStopping (of_record e))
never_stopping (records.Journal e) is = absurd cc
never_stopping records.Memory is = absurd cc

-- where the replica is not moved
module _ {D L : Type 0} (m : DiskModel D) (links : LinkModel L) (client : List ℕ) (old new : Replica) (before after : D) (first last : L) (start : Start) (at : List ℕ) (step : Step) (live : is_closed old.journal ≡ false) where
  journal_refused : (e : AppendError) → StepRefused m old new before after (length (body_of step)) e → JournalRefused m old new before after first last e
  journal_refused journal.Disk r = (r.0.0, r.1, live, r.0.1)
  journal_refused journal.Closed r = absurd (true≢false (sym r.0.0 ∙ live))
  journal_refused (journal.TooLong bytes) r = (let a = r.0.0 in let b = r.0.1 in omega (arith, a, b), record { same = record { state = r.1; journal = r.0.3; disk = r.0.4 }; is_open = live })

  pub unmoved_refused : (e : RecordError) → IsNotMoved m old new before after at step e → SyncRefused m links old new before after first last (of_record e)
  unmoved_refused (records.Journal e) r = journal_refused e r.1
  unmoved_refused records.Memory r = record { same = r.1.1; is_open = live }

  pub unmoved_honest : ((bytes : ℕ) → bytes ≡ row_size step → IsLongRecord start (state_of old.core) (server_chain links first) (server_chain links last) bytes) → (e : RecordError) → IsNotMoved m old new before after at step e
      → HonestRefused start (state_of old.core) (server_chain links first) (server_chain links last) (of_record e)
  unmoved_honest long (records.Journal journal.Disk) r = tt
  unmoved_honest long (records.Journal journal.Closed) r = tt
  unmoved_honest long (records.Journal (journal.TooLong bytes)) r = long bytes r.1.0.0
  unmoved_honest long records.Memory r = tt

  pub unmoved_rests : (host : List ℕ) (e : RecordError) → RestsOnPulled links client host (from_state start (state_of old.core)) first last (of_record e)
  unmoved_rests host (records.Journal e) = tt
  unmoved_rests host records.Memory = tt

  pub unmoved_told : (host : List ℕ) → ((bytes : ℕ) → bytes ≡ row_size step → RestsOnTold links client host start (state_of old.core) first last (errors.Journal (journal.TooLong bytes))) → (e : RecordError) → IsNotMoved m old new before after at step e
      → RestsOnTold links client host start (state_of old.core) first last (of_record e)
  unmoved_told host told (records.Journal journal.Disk) r = tt
  unmoved_told host told (records.Journal journal.Closed) r = tt
  unmoved_told host told (records.Journal (journal.TooLong bytes)) r = told bytes r.1.0.0
  unmoved_told host told records.Memory r = tt

  -- its state is the old one
  pub unmoved_state : (e : RecordError) → IsNotMoved m old new before after at step e → state_of new.core ≡ state_of old.core
  unmoved_state (records.Journal e) r = r.1.1
  unmoved_state records.Memory r = r.1.1.state

  -- what it heard is no cause
  pub unmoved_cause : (hs : List Heard) (e : RecordError) → GoesOnFrom hs ⊎ GoesOnFromAllButLast hs → HeardRefused client hs (of_record e)
  unmoved_cause hs (records.Journal e) g = record { cause = tt; until = g }
  unmoved_cause hs records.Memory g = record { cause = tt; until = g }

  -- the last version may be passed or not, and one more may have been added
  pub unmoved_passes : (last : List Version) → (last ≡ []) ⊎ IsOne last → (e : RecordError) → IsNotMoved m old new before after at step e → IsUnpassed (of_record e) last
  unmoved_passes last few (records.Journal journal.Disk) r = few
  unmoved_passes last few (records.Journal journal.Closed) r = absurd (true≢false (sym r.1.0.0 ∙ live))
  unmoved_passes last few (records.Journal (journal.TooLong bytes)) r = few
  unmoved_passes last few records.Memory r = few

  pub unmoved_adds : (e : RecordError) → IsNotMoved m old new before after at step e → MayAdd (of_record e)
  unmoved_adds (records.Journal journal.Disk) r = tt
  unmoved_adds (records.Journal journal.Closed) r = absurd (true≢false (sym r.1.0.0 ∙ live))
  unmoved_adds (records.Journal (journal.TooLong bytes)) r = tt
  unmoved_adds records.Memory r = tt

  pub unmoved_measured : (hs : List Heard) → ((bytes : ℕ) → bytes ≡ row_size step → IsRecordLen start (state_of old.core) client hs bytes) → (e : RecordError) → IsNotMoved m old new before after at step e → IsMeasured start (state_of old.core) client hs (of_record e)
  unmoved_measured hs len (records.Journal journal.Disk) r = tt
  unmoved_measured hs len (records.Journal journal.Closed) r = tt
  unmoved_measured hs len (records.Journal (journal.TooLong bytes)) r = len bytes r.1.0.0
  unmoved_measured hs len records.Memory r = tt

-- ---- a stop whose record is not written

-- it has read all that it heard
pub read_all : {L : Type 0} (m : LinkModel L) (client host : List ℕ) (first now : L) (hs : List Heard) (e : SyncError) → ¬ (e ≡ errors.Memory) → HearsUntil m client host first now hs e → Hears m client host first now hs
read_all m client host first now hs errors.Memory other one = absurd (other refl)
read_all m client host first now hs (errors.Journal e) other one = one
read_all m client host first now hs errors.Link other one = one
read_all m client host first now hs (errors.Reply kind) other one = one
read_all m client host first now hs (errors.Gone base) other one = one
read_all m client host first now hs (errors.Busy parent) other one = one
read_all m client host first now hs (errors.OutOfSync base parent) other one = one
read_all m client host first now hs (errors.Segment version) other one = one
read_all m client host first now hs (errors.SegmentTooLong bytes) other one = one
read_all m client host first now hs (errors.PullTooLong bytes) other one = one

-- it went on to its last reply, or from all
pub went_on_until : (hs : List Heard) (e : SyncError) → GoesOnToRefusal hs e → GoesOnFrom hs ⊎ GoesOnFromAllButLast hs
went_on_until hs errors.Memory g = g
went_on_until hs (errors.Journal e) g = g
went_on_until hs errors.Link g = inl g
went_on_until hs (errors.Segment version) g = inl g
went_on_until hs (errors.SegmentTooLong bytes) g = inl g
went_on_until hs (errors.Reply kind) g = inr g
went_on_until hs (errors.Gone base) g = inr g
went_on_until hs (errors.Busy parent) g = inr g
went_on_until hs (errors.OutOfSync base parent) g = inr g
went_on_until hs (errors.PullTooLong bytes) g = inr g

none_or_one_at : (kind : ReplyKind) (last : List Version) → IsUnpassedAt kind last → (last ≡ []) ⊎ IsOne last
none_or_one_at Parent last one = inr one
none_or_one_at Nil last one = inr one
none_or_one_at Cut last none = inl none
none_or_one_at Head last none = inl none
none_or_one_at Header last none = inl none
none_or_one_at Length last none = inl none
none_or_one_at TooLong last none = inl none
none_or_one_at (Status code) last none = inl none

-- one version at most is not passed
pub none_or_one : (e : SyncError) (last : List Version) → IsUnpassed e last → (last ≡ []) ⊎ IsOne last
none_or_one (errors.Reply kind) last u = none_or_one_at kind last u
none_or_one (errors.Segment version) last one = inr one
none_or_one (errors.PullTooLong bytes) last one = inr one
none_or_one (errors.Gone base) last none = inl none
none_or_one (errors.Busy parent) last none = inl none
none_or_one (errors.OutOfSync base parent) last none = inl none
none_or_one (errors.SegmentTooLong bytes) last none = inl none
none_or_one errors.Link last none = inl none
none_or_one errors.Memory last few = few
none_or_one (errors.Journal journal.Disk) last few = few
none_or_one (errors.Journal (journal.TooLong bytes)) last few = few
none_or_one (errors.Journal journal.Closed) last none = inl none

pub tells_unwritten : (legs : List Leg) (e : SyncError) (hs : List Heard) (r : RecordError) → ((last : List Version) → (last ≡ []) ⊎ IsOne last → IsUnpassed (of_record r) last) → TellsOf legs e hs → TellsOf legs (of_record r) hs
tells_unwritten legs e hs r passes t = record { last = t.last; told = t.told; unpassed = passes t.last (none_or_one e t.last t.unpassed) }

pub went_unwritten : (state : State) (before after : ServerChain) (legs : List Leg) (e : SyncError) (r : RecordError) → MayAdd (of_record r) → WentOn state before after legs e → WentOn state before after legs (of_record r)
went_unwritten state before after legs e r may w = record { untold = w.untold; few = w.few; told_only = inr may; went = w.went }

-- a chain that has grown knows the version of a snapshot still
pub known_grown : (start : Start) (old new : List Version) → IsKnownStart start old → Grows old new → IsKnownStart start new
known_grown Base old new known g = tt
known_grown (Snapshot version tasks) old new known g = (known.0, known.1 ++ g.more, cut_grows old new version known.0 known.1 known.2 g)

-- a record that is not written is of a place at which the base is not
pub far_from_start : (start : Start) (old : State) (chain : List Version) (legs : List Leg) → same_id (place (from_state start old) legs).at old.base ≡ false → IsKnownStart start chain → LiesIn (from_state start old) chain legs → IsIn (from_state start old) chain legs
far_from_start start old chain legs far known (inr is) = is
far_from_start Base old chain legs far known (inl none) = absurd (apart (place old legs).at old.base far (ap (λ ls. (place old ls).at) none))
far_from_start (Snapshot version tasks) old chain legs far known (inl none) =
    subst (IsIn (from_state (Snapshot version tasks) old) chain) (sym none) (between_none chain version known.0 known.1 known.2)
