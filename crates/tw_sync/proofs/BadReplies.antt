-- Replies that no sync goes on from.
use Rattle.std.proofs.Common.{◌≡◌, ℕ, inl, inr, Bool, true, false, not, List, Result, Ok, IsTrue, refl, sym, ap, subst, ◌∙◌, ◌⊎◌}
use Rattle.std.proofs.lemmas.Bool.{true≢false}
use Rattle.std.proofs.lemmas.Cmp.{nat_list_eq_equiv}
use Rattle.uuid.specs.Parts.{zero_bytes}
use Rattle.tw_protocol.specs.Chain.{same_id}
use Rattle.tw_protocol.proofs.Chains.{same_id_exact}
use Rattle.tw_http.specs.declared.message.Asked.TheVariants as asked
use Rattle.tw_http.specs.declared.message.Request.{Request}
use Rattle.tw_http.specs.declared.message.Request.TheVariants as asks
use Rattle.tw_http.specs.declared.message.Response.{Response}
use Rattle.tw_http.specs.declared.message.Response.TheVariants.{Added, Conflict, Child, UpToDate, Gone, Stored, Snapshot}
use Rattle.tw_http.specs.declared.message.HttpError.{HttpError}
use Rattle.tw_http.specs.Responses.{answers, IsResponseAnswer}
use Rattle.tw_http.specs.Serving.{kind_of}
use Rattle.tw_sync.specs.Replies.Heard.{heard}
use Rattle.tw_sync.specs.Ends.Refused.{IsBadReply}
use Rattle.tw_sync.specs.Replies.Answers.{IsBadlyAnswered}
use Rattle.tw_sync.specs.declared.error.ReplyKind.{ReplyKind}
use Rattle.tw_sync.specs.declared.error.ReplyKind.TheVariants.{Parent, Nil}
use Rattle.tw_sync.specs.declared.error.AskError.{AskError}
use Rattle.tw_sync.specs.declared.error.AskError.TheVariants as asking
use Rattle.tw_sync.proofs.Replies.{reply_answers}

pub apart : (a b : List ℕ) → same_id a b ≡ false → ¬ (a ≡ b)
apart a b e same = true≢false (sym (nat_list_eq_equiv.refl a) ∙ ap (λ x. same_id a x) same ∙ e)

pub differs : (a b : List ℕ) → true ≡ not (same_id a b) → ¬ (a ≡ b)
differs a b test = apart a b (by (same_id a b) test)
  where
    by : (t : Bool) → true ≡ not t → t ≡ false
    by true e = cc
    by false e = refl

pub is_same : (a b : List ℕ) → false ≡ not (same_id a b) → a ≡ b
is_same a b test = same_id_exact a b (by (same_id a b) test)
  where
    by : (t : Bool) → false ≡ not t → t ≡ true
    by true e = refl
    by false e = cc

-- a response that was read is a bad reply of this kind
bad : (asked : Request) (bytes : List ℕ) (e : AskError) (kind : ReplyKind) (r : Result Response HttpError) → e ≡ asking.Reply kind → IsResponseAnswer (kind_of asked) bytes r → IsBadReply kind (heard asked r) → IsBadlyAnswered asked bytes e
bad asked bytes e kind r is read bad_reply = subst (IsBadlyAnswered asked bytes) (sym is) (r, read, bad_reply)

pub added_nil : (asked : Request) (bytes id nil : List ℕ) (wanted : Bool) (e : AskError) (r : Response) → e ≡ asking.Reply Nil → IsResponseAnswer (kind_of asked) bytes (Ok r) → r ≡ Added id wanted → true ≡ same_id id nil → nil ≡ zero_bytes → IsBadlyAnswered asked bytes e
added_nil asked bytes id nil wanted e r is read same test zero = bad asked bytes e Nil (Ok r) is read (inl (wanted, ap Ok same ∙ ap (λ (x : List ℕ). Ok (Added x wanted)) (same_id_exact id nil (sym test) ∙ zero)))

pub child_nil : (client parent named bytes id nil segment : List ℕ) (e : AskError) (r : Response) → e ≡ asking.Reply Nil → IsResponseAnswer asked.Child bytes (Ok r) → r ≡ Child id named segment → named ≡ parent → true ≡ same_id id nil → nil ≡ zero_bytes → IsBadlyAnswered (asks.Child client parent) bytes e
child_nil client parent named bytes id nil segment e r is read same right test zero =
    bad (asks.Child client parent) bytes e Nil (Ok r) is read (inr (client, parent, segment, refl, ap Ok same ∙ ap (λ (x : List ℕ). Ok (Child x named segment)) (same_id_exact id nil (sym test) ∙ zero) ∙ ap (λ (x : List ℕ). Ok (Child zero_bytes x segment)) right))

pub other_parent : (client parent named bytes id segment : List ℕ) (e : AskError) (r : Response) → e ≡ asking.Reply Parent → IsResponseAnswer asked.Child bytes (Ok r) → r ≡ Child id named segment → ¬ (named ≡ parent) → IsBadlyAnswered (asks.Child client parent) bytes e
other_parent client parent named bytes id segment e r is read same other =
    bad (asks.Child client parent) bytes e Parent (Ok r) is read (client, parent, id, named, segment, refl, ap Ok same, other)

-- ---- responses to another question

to_add : (r s : Response) → IsTrue (answers asked.Add r) → r ≡ s → answers asked.Add s ≡ false → ⊥
to_add r s is same other = true≢false (sym is ∙ ap (answers asked.Add) same ∙ other)

to_child : (r s : Response) → IsTrue (answers asked.Child r) → r ≡ s → answers asked.Child s ≡ false → ⊥
to_child r s is same other = true≢false (sym is ∙ ap (answers asked.Child) same ∙ other)

pub not_to_add : (bytes : List ℕ) (r : Response) → IsResponseAnswer asked.Add bytes (Ok r)
    → ((id : List ℕ) × (parent : List ℕ) × (segment : List ℕ) × (r ≡ Child id parent segment)) ⊎ ((r ≡ UpToDate) ⊎ (r ≡ Gone)) → ⊥
not_to_add bytes r read (inl (id, parent, segment, same)) = to_add r (Child id parent segment) (reply_answers asked.Add bytes (Ok r) read) same refl
not_to_add bytes r read (inr (inl same)) = to_add r UpToDate (reply_answers asked.Add bytes (Ok r) read) same refl
not_to_add bytes r read (inr (inr same)) = to_add r Gone (reply_answers asked.Add bytes (Ok r) read) same refl

pub not_to_child : (bytes : List ℕ) (r : Response) → IsResponseAnswer asked.Child bytes (Ok r)
    → ((id : List ℕ) × (wanted : Bool) × (r ≡ Added id wanted)) ⊎ ((id : List ℕ) × (r ≡ Conflict id)) → ⊥
not_to_child bytes r read (inl (id, wanted, same)) = to_child r (Added id wanted) (reply_answers asked.Child bytes (Ok r) read) same refl
not_to_child bytes r read (inr (id, same)) = to_child r (Conflict id) (reply_answers asked.Child bytes (Ok r) read) same refl

-- what is said of a stored snapshot answers neither question
pub no_snapshot_to_add : (bytes : List ℕ) (r : Response) → IsResponseAnswer asked.Add bytes (Ok r) → (r ≡ Stored) ⊎ ((version : List ℕ) × (snapshot : List ℕ) × (r ≡ Snapshot version snapshot)) → ⊥
no_snapshot_to_add bytes r read (inl same) = to_add r Stored (reply_answers asked.Add bytes (Ok r) read) same refl
no_snapshot_to_add bytes r read (inr (version, snapshot, same)) = to_add r (Snapshot version snapshot) (reply_answers asked.Add bytes (Ok r) read) same refl

pub no_snapshot_to_child : (bytes : List ℕ) (r : Response) → IsResponseAnswer asked.Child bytes (Ok r) → (r ≡ Stored) ⊎ ((version : List ℕ) × (snapshot : List ℕ) × (r ≡ Snapshot version snapshot)) → ⊥
no_snapshot_to_child bytes r read (inl same) = to_child r Stored (reply_answers asked.Child bytes (Ok r) read) same refl
no_snapshot_to_child bytes r read (inr (version, snapshot, same)) = to_child r (Snapshot version snapshot) (reply_answers asked.Child bytes (Ok r) read) same refl
