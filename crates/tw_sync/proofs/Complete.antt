-- Where a sync can be done, its refusals are for want of memory or of a fresh id.
use Rattle.std.proofs.Common.{◌≡◌, ◌⊎◌, ℕ, ◌≤◌, ◌^◌, inl, inr, List, [], ◌∷◌, length, Err, refl, sym, ap, ◌∙◌, arith}
use Rattle.std.proofs.lemmas.Bool.{true≢false}
use Rattle.tw_world.specs.Disk.{DiskModel}
use Rattle.tw_model.specs.declared.SyncOp.{SyncOp}
use Rattle.tw_journal.specs.declared.error.AppendError.TheVariants as journal
use Rattle.tw_http.specs.Link.{LinkModel}
use Rattle.tw_segment.specs.Segment.{max_len, IsSegment}
use Rattle.tw_segment.specs.Refusals.{IsUnread}
use Rattle.tw_segment.proofs.Exact.{the_only}
use Rattle.tw_segment.specs.declared.error.SegmentError.{SegmentError}
use Rattle.tw_segment.specs.declared.error.SegmentError.TheVariants as segments
use Rattle.tw_state.specs.Core.{state_of}
use Rattle.tw_replica.specs.declared.replica.Replica.{Replica}
use Rattle.tw_path.specs.Path.{versions_of}
use Rattle.tw_sync.specs.Ends.Refused.{SyncRefused}
use Rattle.tw_sync.specs.Sync.{server_chain}
use Rattle.tw_sync.specs.Start.{Start, from_state}
use Rattle.tw_sync.specs.Ends.Honest.{HonestRefused, CanSync, RestsOnPulled, RestsOnTold, IsWant}
use Rattle.tw_sync.specs.declared.error.SyncError.{SyncError}
use Rattle.tw_sync.specs.declared.error.SyncError.TheVariants as errors
use Rattle.tw_sync.proofs.CursorInChain.{segments_len-append, pulled_within}

-- what is a segment within its limit is read
only_memory : (bytes : List ℕ) (e : SegmentError) (ops : List SyncOp) → IsUnread bytes e → length bytes ≤ max_len → IsSegment bytes ops → e ≡ segments.Memory
only_memory bytes (segments.TooLong len) ops u within s = absurd (omega (arith, u.0, u.1, within))
only_memory bytes segments.NotJson ops u within s = absurd (u.1 s.0 s.1)
only_memory bytes (segments.Shape index) ops u within s = (the_only {V = List SyncOp} (λ v. v) bytes u.1.0 (Err (segments.Shape index)) within u.1.1 tt u.1.2 ops s).1
only_memory bytes segments.Memory ops u within s = refl

pub can_sync : {D L : Type 0} (m : DiskModel D) (links : LinkModel L) (old new : Replica) (before after : D) (first last : L) (client host : List ℕ) (start : Start) (e : SyncError) → CanSync m links start old before after first last client host
    → SyncRefused m links old new before after first last e → HonestRefused start (state_of old.core) (server_chain links first) (server_chain links last) e → RestsOnPulled links client host (from_state start (state_of old.core)) first last e → RestsOnTold links client host start (state_of old.core) first last e → IsWant e
can_sync m links old new before after first last client host start errors.Memory can r h p t = inl refl
can_sync m links old new before after first last client host start (errors.Reply kind) can r h p t = inr (ap (λ k. errors.Reply k) h)
can_sync m links old new before after first last client host start errors.Link can r h p t = absurd (can.link_works r.0)
can_sync m links old new before after first last client host start (errors.Gone base) can r h p t = absurd (h can.agrees)
can_sync m links old new before after first last client host start (errors.Busy parent) can r h p t = absurd (can.few h)
can_sync m links old new before after first last client host start (errors.OutOfSync base parent) can r h p t = absurd h
can_sync m links old new before after first last client host start (errors.SegmentTooLong bytes) can r h p t =
    let within = can.within.segment h.legs h.path h.between h.last h.some in
    let long = r.0 in
    let len = h.len in
    absurd (omega (arith, within, long, len))
can_sync m links old new before after first last client host start (errors.PullTooLong bytes) can r h p t =
    let within = can.within.pull (versions_of p.0.legs) p.0.v p.0.between p.1 in
    let long = r.0 in
    let len = p.0.len in
    let all = segments_len-append (versions_of p.0.legs) (p.0.v ∷ []) in
    let pulled = pulled_within p.0.legs in
    absurd (omega (arith, within, long, len, all, pulled))
can_sync m links old new before after first last client host start (errors.Segment version) can r h p t =
    let read = can.within.read p.0.versions p.0.v p.0.between p.1 in
    absurd (p.0.other (only_memory p.0.v.segment p.0.error read.ops p.0.unread read.within read.reads))
can_sync m links old new before after first last client host start (errors.Journal journal.Disk) can r h p t = absurd (can.disk_works r.0)
can_sync m links old new before after first last client host start (errors.Journal journal.Closed) can r h p t = absurd (true≢false (sym r.0 ∙ can.is_open))
can_sync m links old new before after first last client host start (errors.Journal (journal.TooLong bytes)) can r h p t = fits (can.within.record_fits t.0.legs t.0.path t.0.between) t.1 t.0.len
  where
    fits : {done stopped : ℕ} {P T : Type 0} → (P → done ≤ 2 ^ 30) × (T → stopped ≤ 2 ^ 30) → T → (P × (bytes ≡ done)) ⊎ (bytes ≡ stopped) → IsWant (errors.Journal (journal.TooLong bytes))
    fits within told (inl (there, len)) = let a = within.0 there in let long = r.0 in absurd (omega (arith, a, long, len))
    fits within told (inr len) = let a = within.1 told in let long = r.0 in absurd (omega (arith, a, long, len))
