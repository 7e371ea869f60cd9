-- What is said of a sync from a snapshot, by what is said of one from the state at it.
use Rattle.std.proofs.Common.{ℕ, List}
use Rattle.tw_http.specs.Link.{LinkModel}
use Rattle.tw_state.specs.State.{State}
use Rattle.tw_outcome.specs.End.{ServerChain}
use Rattle.tw_sync.specs.Start.{Start, from_state}
use Rattle.tw_sync.specs.Start.Start.{Base}
use Rattle.tw_sync.specs.Replies.Heard.{Heard}
use Rattle.tw_sync.specs.Ends.Honest.{HonestRefused, RestsOnTold}
use Rattle.tw_sync.specs.Replies.Measured.{IsMeasured}
use Rattle.tw_sync.specs.declared.error.SyncError.{SyncError}
use Rattle.tw_sync.specs.declared.error.SyncError.TheVariants as errors

-- it is no cause of the journal
abbrev pub IsNoJournal : SyncError → Type 0
IsNoJournal (errors.Journal e) = ⊥
IsNoJournal errors.Memory = Unit {0}
IsNoJournal errors.Link = Unit {0}
IsNoJournal (errors.Reply kind) = Unit {0}
IsNoJournal (errors.Gone base) = Unit {0}
IsNoJournal (errors.Busy parent) = Unit {0}
IsNoJournal (errors.OutOfSync base parent) = Unit {0}
IsNoJournal (errors.Segment version) = Unit {0}
IsNoJournal (errors.SegmentTooLong bytes) = Unit {0}
IsNoJournal (errors.PullTooLong bytes) = Unit {0}

module _ (start : Start) (old : State) where
  pub refused_from : (before after : ServerChain) (e : SyncError) → IsNoJournal e → HonestRefused Base (from_state start old) before after e → HonestRefused start old before after e
  refused_from before after (errors.Journal e) other h = absurd other
  refused_from before after errors.Memory other h = tt
  refused_from before after errors.Link other h = tt
  refused_from before after (errors.Reply kind) other h = h
  refused_from before after (errors.Gone base) other h = h
  refused_from before after (errors.Busy parent) other h = h
  refused_from before after (errors.OutOfSync base parent) other h = h
  refused_from before after (errors.Segment version) other h = h
  refused_from before after (errors.SegmentTooLong bytes) other h = h
  refused_from before after (errors.PullTooLong bytes) other h = h

  pub measured_from : (client : List ℕ) (hs : List Heard) (e : SyncError) → IsNoJournal e → IsMeasured Base (from_state start old) client hs e → IsMeasured start old client hs e
  measured_from client hs (errors.Journal e) other h = absurd other
  measured_from client hs errors.Memory other h = tt
  measured_from client hs errors.Link other h = tt
  measured_from client hs (errors.Reply kind) other h = tt
  measured_from client hs (errors.Gone base) other h = tt
  measured_from client hs (errors.Busy parent) other h = tt
  measured_from client hs (errors.OutOfSync base parent) other h = tt
  measured_from client hs (errors.Segment version) other h = tt
  measured_from client hs (errors.SegmentTooLong bytes) other h = h
  measured_from client hs (errors.PullTooLong bytes) other h = tt

-- it rests on no place
pub told_none : {L : Type 0} (m : LinkModel L) (client host : List ℕ) (start : Start) (old : State) (first last : L) (e : SyncError) → IsNoJournal e → RestsOnTold m client host start old first last e
told_none m client host start old first last (errors.Journal e) other = absurd other
told_none m client host start old first last errors.Memory other = tt
told_none m client host start old first last errors.Link other = tt
told_none m client host start old first last (errors.Reply kind) other = tt
told_none m client host start old first last (errors.Gone base) other = tt
told_none m client host start old first last (errors.Busy parent) other = tt
told_none m client host start old first last (errors.OutOfSync base parent) other = tt
told_none m client host start old first last (errors.Segment version) other = tt
told_none m client host start old first last (errors.SegmentTooLong bytes) other = tt
told_none m client host start old first last (errors.PullTooLong bytes) other = tt
