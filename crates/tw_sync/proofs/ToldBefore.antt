-- What a sync was told before it is refused.
use Rattle.std.proofs.Common.{◌≡◌, ◌⊎◌, ℕ, inl, inr, Bool, List, [], ◌∷◌, ◌++◌, Result, Ok, refl, sym, ap, subst, ◌∙◌}
use Rattle.std.proofs.lemmas.List.{append-nil}
use Rattle.uuid.specs.Parts.{zero_bytes}
use Rattle.tw_protocol.specs.Chain.{Version}
use Rattle.tw_protocol.specs.Answer.{version}
use Rattle.tw_http.specs.Link.{LinkModel, Exchange}
use Rattle.tw_http.specs.Serving.{kind_of}
use Rattle.tw_http.specs.declared.message.Request.{Request}
use Rattle.tw_http.specs.declared.message.Request.TheVariants as asks
use Rattle.tw_http.specs.declared.message.Response.{Response}
use Rattle.tw_http.specs.declared.message.HttpError.{HttpError}
use Rattle.tw_http.specs.declared.message.Response.TheVariants as replies
use Rattle.tw_journal.specs.declared.error.AppendError.TheVariants as journal
use Rattle.tw_replica.specs.declared.error.RecordError.{RecordError}
use Rattle.tw_replica.specs.declared.error.RecordError.TheVariants as records
use Rattle.tw_path.specs.Path.{Leg, versions_of}
use Rattle.tw_sync.specs.Replies.Heard.{Heard, heard, AreHeard, Hears, HearsUntil, told_in, told_as, added_as}
use Rattle.tw_sync.specs.Replies.Answers.{HeardRefusedAsk, NoReply}
use Rattle.tw_sync.specs.Ends.Refused.{IsBadReply, IsNilVersion, HasBadStatus}
use Rattle.tw_sync.specs.Way.{IsOne, IsUnpassedAt, IsUnpassed, TellsOf}
use Rattle.tw_sync.specs.Ends.Causes.{of_ask, of_record}
use Rattle.tw_sync.specs.declared.error.AskError.{AskError}
use Rattle.tw_sync.specs.declared.error.AskError.TheVariants as asking
use Rattle.tw_sync.specs.declared.error.ReplyKind.{ReplyKind}
use Rattle.tw_sync.specs.declared.error.ReplyKind.TheVariants.{Cut, Head, Header, Length, TooLong, Parent, Nil, Status}
use Rattle.tw_sync.specs.declared.error.SyncError.{SyncError}
use Rattle.tw_sync.specs.declared.error.SyncError.TheVariants as errors
use Rattle.tw_sync.proofs.Hearing.{told_in-append, told_in-last}
use Rattle.tw_sync.proofs.Replies.{Answers, reply_answers}

-- all that was told of is passed
pub tells_all : (legs : List Leg) (e : SyncError) (hs : List Heard) → IsUnpassed e [] → told_in hs ≡ versions_of legs → TellsOf legs e hs
tells_all legs e hs passed told = record { last = []; told = told ∙ sym (append-nil (versions_of legs)); unpassed = passed }

-- all but the version of the last reply
pub tells_more : (legs : List Leg) (e : SyncError) (hs : List Heard) (h : Heard) (v : Version) → told_as h.asked h.reply ≡ v ∷ [] → IsUnpassed e (v ∷ []) → told_in hs ≡ versions_of legs → TellsOf legs e (hs ++ h ∷ [])
tells_more legs e hs h v is unpassed told = record { last = v ∷ []; told = told_in-last hs h v is ∙ ap (λ vs. vs ++ v ∷ []) told; unpassed = unpassed }

-- if a record is not written all may be passed
pub unwritten_passes : (e : RecordError) → IsUnpassed (of_record e) []
unwritten_passes (records.Journal journal.Disk) = inl refl
unwritten_passes (records.Journal journal.Closed) = refl
unwritten_passes (records.Journal (journal.TooLong bytes)) = inl refl
unwritten_passes records.Memory = inl refl

pub unasked_passes : (e : AskError) → NoReply e → IsUnpassed (of_ask e) []
unasked_passes e (inl is) = subst (λ x. IsUnpassed (of_ask x) []) (sym is) refl
unasked_passes e (inr is) = subst (λ x. IsUnpassed (of_ask x) []) (sym is) (inl refl)

-- what was asked if the reply says that a version was added
pub asked_to_add : (asked : Request) (id : List ℕ) (wanted : Bool) → Answers (kind_of asked) (Ok (replies.Added id wanted)) → IsOne (added_as asked id)
asked_to_add (asks.Add client parent segment) id wanted fits = (version id parent segment, refl)
asked_to_add (asks.Child client parent) id wanted fits = absurd cc
asked_to_add (asks.AddSnapshot client version bytes) id wanted fits = absurd cc
asked_to_add (asks.Snapshot client) id wanted fits = absurd cc

-- a version whose id is nil is told of
nil_told : (asked : Request) (reply : Result Response HttpError) → IsNilVersion (heard asked reply) → Answers (kind_of asked) reply → IsOne (told_as asked reply)
nil_told asked reply (inl (wanted, is)) fits = subst (λ r. IsOne (told_as asked r)) (sym is) (asked_to_add asked zero_bytes wanted (subst (Answers (kind_of asked)) is fits))
nil_told asked reply (inr (client, parent, segment, asks_so, is)) fits = subst (λ r. IsOne (told_as asked r)) (sym is) (version zero_bytes parent segment, refl)

-- a reply with a bad status tells of none
status_untold : (asked : Request) (code : ℕ) (reply : Result Response HttpError) → HasBadStatus code (heard asked reply) → told_as asked reply ≡ []
status_untold asked code reply (inl is) = ap (told_as asked) is
status_untold asked code reply (inr (inl (number, is))) = ap (told_as asked) is
status_untold asked code reply (inr (inr (inl (number, is)))) = ap (told_as asked) is
status_untold asked code reply (inr (inr (inr (number, is)))) = ap (told_as asked) is

-- what a bad reply tells of is not passed
pub bad_told : (kind : ReplyKind) (asked : Request) (reply : Result Response HttpError) → IsBadReply kind (heard asked reply) → Answers (kind_of asked) reply → IsUnpassedAt kind (told_as asked reply)
bad_told Cut asked reply is fits = ap (told_as asked) is
bad_told Head asked reply is fits = ap (told_as asked) is
bad_told Header asked reply is fits = ap (told_as asked) is
bad_told Length asked reply is fits = ap (told_as asked) is
bad_told TooLong asked reply is fits = ap (told_as asked) is
bad_told (Status code) asked reply is fits = status_untold asked code reply is
bad_told Nil asked reply is fits = nil_told asked reply is fits
bad_told Parent asked reply (client, parent, id, named, segment, asks_so, is, other) fits = subst (λ r. IsOne (told_as asked r)) (sym is) (version id named segment, refl)

-- what one exchange heard is read as a response to what it asked
one_read : {L : Type 0} (m : LinkModel L) (client host : List ℕ) (a b : L) (h : Heard) → Hears m client host a b (h ∷ []) → Answers (kind_of h.asked) h.reply
one_read m client host a b h one = by one.exchanges one.are_heard
  where
    by : (xs : List Exchange) → AreHeard client host xs (h ∷ []) → Answers (kind_of h.asked) h.reply
    by [] none = absurd cc
    by (x ∷ xs) is = reply_answers (kind_of h.asked) x.reply h.reply is.0.read_as

-- what a refused question heard
pub tells_ask : {L : Type 0} (m : LinkModel L) (client host : List ℕ) (a b : L) (legs : List Leg) (e : AskError) (hs ks : List Heard) → HearsUntil m client host a b ks (of_ask e) → HeardRefusedAsk ks e → told_in hs ≡ versions_of legs → TellsOf legs (of_ask e) (hs ++ ks)
tells_ask m client host a b legs (asking.Reply kind) hs ks hears (h, is, bad) told = subst (λ xs. TellsOf legs (errors.Reply kind) (hs ++ xs)) (sym is) (record {
  last = told_as h.asked h.reply;
  told = told_in-append hs (h ∷ []) ∙ ap (λ vs. told_in hs ++ vs) (append-nil (told_as h.asked h.reply)) ∙ ap (λ vs. vs ++ told_as h.asked h.reply) told;
  unpassed = bad_told kind h.asked h.reply bad.0 (one_read m client host a b h (subst (Hears m client host a b) is hears));
})
tells_ask m client host a b legs asking.Link hs ks hears none told = subst (λ xs. TellsOf legs errors.Link (hs ++ xs)) (sym none) (tells_all legs errors.Link (hs ++ []) refl (ap told_in (append-nil hs) ∙ told))
tells_ask m client host a b legs asking.Memory hs ks hears none told = subst (λ xs. TellsOf legs errors.Memory (hs ++ xs)) (sym none) (tells_all legs errors.Memory (hs ++ []) (inl refl) (ap told_in (append-nil hs) ∙ told))
