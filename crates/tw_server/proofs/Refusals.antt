-- Why a request is not answered if the journal refuses.
use Rattle.std.proofs.Common.{◌≡◌, ◌∙◌, inl, inr, ℕ, ◌+◌, Bool, List, ◌++◌, length, take, drop, ap, true, false, Result, Ok, Err, refl, sym, subst, arith}
use Rattle.std.specs.Result.{IsErrAnd, IfErr, IfOk}
use Rattle.std.proofs.lemmas.Bool.{true≢false}
use Rattle.tw_world.specs.Disk.{DiskModel, Tells, Untouched}
use Rattle.tw_journal.proofs.Offsets.{still_open}
use Rattle.tw_journal.proofs.Unique.{one_place}
use Rattle.tw_journal.specs.Journal.{AppendRefused, ReadRefused, OnBody, HasBody, HasOffset, IsNoRecordAt, IsSameBesideRoom, is_closed as is_journal_closed}
use Rattle.tw_journal.specs.Reading.{StopsAt}
use Rattle.std.specs.Prelude.{nat_eq}
use Rattle.std.specs.List.{starts_with}
use Rattle.std.proofs.lemmas.Cmp.{nat_list_eq_equiv}
use Rattle.std.proofs.lemmas.List.{take-append-drop, take_at}
use Rattle.tw_protocol.specs.Chain.{same_id}
use Rattle.tw_protocol.proofs.Chains.{same_id_exact}
use Rattle.tw_journal.specs.declared.journal.Journal.{Journal}
use Rattle.tw_journal.specs.declared.error.AppendError.{AppendError}
use Rattle.tw_journal.specs.declared.error.AppendError.TheVariants as appends
use Rattle.tw_server.specs.declared.error.AnswerError.{AnswerError}
use Rattle.tw_server.specs.declared.error.AnswerError.TheVariants as answer
use Rattle.tw_journal.specs.declared.error.ReadError.{ReadError}
use Rattle.tw_journal.specs.declared.error.ReadError.TheVariants as reads
use Rattle.tw_server.specs.declared.server.Server.{Server}
use Rattle.tw_server.specs.Faults.{read_in_answer, append_in_answer}
use Rattle.tw_server.specs.Server.{magic, AnswerRefused, HasFront, IsKnownFront, IsDamage, is_closed}

-- a server that is open after a refusal was open before
pub was_open_before : {D X : Type 0} (m : DiskModel D) (old new : Server) (before after : D) (r : Result X AnswerError) → (is_closed old ≡ true → r ≡ Err answer.Closed) → IfErr r (AnswerRefused m old new before after) → is_closed new ≡ false → is_closed old ≡ false
was_open_before m old new before after r closed refused open_now = by (is_closed old) refl
  where
    by : (b : Bool) → is_closed old ≡ b → is_closed old ≡ false
    by true e =
        let why : AnswerRefused m old new before after answer.Closed = subst (λ q. IfErr q (AnswerRefused m old new before after)) (closed e) refused in
        absurd (true≢false (sym e ∙ ap (λ (s : Server). is_closed s) (sym why.1) ∙ open_now))
    by false e = e

-- ---- damage

-- a read leaves the journal
same_journal : (journal : Journal) → IsSameBesideRoom journal journal
same_journal journal = record { selector = refl; version = refl; start = refl; offsets = refl; firsts = refl; end = refl; count = refl; closed = refl }

-- the journal does not read a record, after a read that changed nothing
pub read_refused : {D : Type 0} (m : DiskModel D) (server : Server) (old mid new : D) (n : ℕ) (front : List ℕ) (e : ReadError) → is_closed server ≡ false → HasFront server n front → Untouched m old mid → ReadRefused m mid new server.journal e
    → IsNoRecordAt m mid server.journal n e → AnswerRefused m server server old new (read_in_answer e)
read_refused m server old mid new n front reads.Disk open_now known same refused none = (let first = same.kept.faults in let then = refused in omega (arith, first, then), open_now)
read_refused m server old mid new n front reads.Closed open_now known same refused none = absurd (true≢false (sym refused ∙ open_now))
read_refused m server old mid new n front (reads.Damaged offset) open_now known same refused none = (
  refl,
  record {
    lost = λ tells.
        let stops = subst (λ file. StopsAt server.journal.start server.journal.offsets.items n file offset) (same.seen tells) (none (same.kept.tells ∙ tells)) in
        record { number = n; front = front; known = known; lost = inl stops };
    never = λ tells log on. refused (same.kept.tells ∙ tells) magic on.bodies (still_open m magic server.journal old mid on.bodies same on.journal);
  },
)
read_refused m server old mid new n front reads.Memory open_now known same refused none = same_journal server.journal

-- a body that begins so is this front, and what comes after it
pub front_and_rest : (body front : List ℕ) → starts_with nat_eq body front ≡ true → body ≡ front ++ drop (length front) body
front_and_rest body front e = sym (take-append-drop (length front) body) ∙ ap (λ l. l ++ drop (length front) body) (sym (same_id_exact front (take (length front) body) e))

begins : (body front : List ℕ) → take (length front) body ≡ front → starts_with nat_eq body front ≡ true
begins body front e = ap (same_id front) e ∙ nat_list_eq_equiv.refl front

-- the record with this number is another one
pub other_record : {D : Type 0} (m : DiskModel D) (server : Server) (old mid : D) (n : ℕ) (front body : List ℕ) (offset : ℕ) → IsKnownFront m server old n front → starts_with nat_eq body front ≡ false
    → (Tells m old → HasBody server.journal (m.seen old) n body) → OnBody m server.journal old n (λ stored. body ≡ stored) → Untouched m old mid → (Tells m mid → HasOffset server.journal (m.seen mid) n offset) → IsDamage m server old offset
other_record m server old mid n front body offset known other has is same way = record {
  lost = λ tells.
      let there = has tells in
      let at = subst (λ file. HasOffset server.journal file n offset) (same.seen tells) (way (same.kept.tells ∙ tells)) in
      let one = one_place server.journal.start server.journal.offsets.items n (m.seen old) there.at (length body) offset at.0 there.stands at.1 in
      let bytes : body ≡ take at.0 (drop (offset + 5) (m.seen old)) = there.is ∙ (λ i. take (one.1 i) (drop (one.0 i + 5) (m.seen old))) in
      record {
        number = n;
        front = front;
        known = known.0;
        lost = inr (record { size = at.0; stands = at.1; differs = λ e. true≢false (sym (begins body front (ap (take (length front)) bytes ∙ e)) ∙ other) });
      };
  never = λ tells log on.
      let rest = known.1 log on in
      true≢false (sym (begins body front (ap (take (length front)) (is magic on.bodies on.journal ∙ rest.1) ∙ take_at front rest.0 (length front) refl)) ∙ other);
}

-- a fault that became this error
pub from_fault : {X E : Type 0} (P : E → Type 0) (r : Result X E) (e : E) → IsErrAnd r (λ s. s ≡ e) → P e → IfErr r P
from_fault P (Ok x) e is p = tt
from_fault P (Err s) e is p = subst P (sym is) p

pub if_ok_weaker : {X E : Type 0} (P Q : X → Type 0) (r : Result X E) → ((x : X) → P x → Q x) → IfOk r P → IfOk r Q
if_ok_weaker P Q (Ok x) f h = f x h
if_ok_weaker P Q (Err e) f h = tt

-- an append that closes a journal reports the disk
pub append_closes : {D : Type 0} (m : DiskModel D) (old new : Journal) (before after : D) (size : ℕ) (e : AppendError) → AppendRefused m old new before after size e → is_journal_closed old ≡ false → is_journal_closed new ≡ true
    → append_in_answer e ≡ answer.Disk
append_closes m old new before after size appends.Disk refused open_now closed = refl
append_closes m old new before after size appends.Closed refused open_now closed = absurd (true≢false (sym refused.0 ∙ open_now))
append_closes m old new before after size (appends.TooLong bytes) refused open_now closed = absurd (true≢false (sym closed ∙ ap is_journal_closed refused.3 ∙ open_now))

pub is_err : {X E : Type 0} (r : Result X E) (e : E) → IsErrAnd r (λ s. s ≡ e) → r ≡ Err e
is_err (Ok x) e is = absurd is
is_err (Err s) e is = ap (λ x. Err x) is
