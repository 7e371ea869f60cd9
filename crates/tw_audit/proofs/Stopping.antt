-- Why an audit stops.
use Rattle.std.proofs.Common.{◌≡◌, ◌⊎◌, ℕ, inl, inr, List, [], ◌∷◌, ◌++◌, Ok, refl, sym, ap, subst, ◌∙◌, append_assoc, arith}
use Rattle.std.specs.Prelude.{IsTrue}
use Rattle.tw_protocol.specs.Chain.{Version, IsBetween, Grows}
use Rattle.tw_protocol.specs.Answer.{version}
use Rattle.tw_http.specs.Link.{LinkModel, IsHonest}
use Rattle.tw_http.specs.declared.message.Response.TheVariants as replies
use Rattle.tw_sync.specs.Replies.Heard.{Heard, Hears, HearsUntil, HearsUntilThat, HearsOne}
use Rattle.tw_sync.specs.Ends.Refused.{EndedBy}
use Rattle.tw_sync.specs.Replies.Answers.{GrowsOn, IsChildAnswer, child_heard, HeardRefusedAsk, AskRefused, NoReply}
use Rattle.tw_sync.specs.Ends.Causes.{of_ask as sync_of_ask}
use Rattle.tw_sync.specs.declared.ask.ChildAnswer.TheVariants as answers
use Rattle.tw_sync.specs.declared.error.AskError.{AskError}
use Rattle.tw_sync.specs.declared.error.AskError.TheVariants as asking
use Rattle.tw_sync.proofs.Hearing.{hears_until_on}
use Rattle.tw_sync.proofs.CursorInChain.{between_grows}
use Rattle.tw_audit.specs.declared.folding.Folded.{Folded}
use Rattle.tw_audit.specs.declared.error.AuditError.{AuditError}
use Rattle.tw_audit.specs.declared.error.AuditError.TheVariants.{Link, Reply, Gone, Segment, Memory}
use Rattle.tw_audit.specs.Asking.{Asks}
use Rattle.tw_audit.specs.Refused.{of_ask, as_sync, EndsWithout, EndsRefused, IsUnreadIn, HonestRefused, CountsFault, Refuses}
use Rattle.tw_audit.specs.Folding.{IsOnTheWay, IsNotTaken, TakesVersion, FoldsOn}
use Rattle.tw_audit.proofs.OnTheWay.{on_the_way, base_unknown, way_is_known, known_grows}
use Rattle.tw_audit.proofs.Asking.{tells_on, honest_on}

last_is : (h : Heard) (P : Heard → Type 0) → P h → EndedBy (h ∷ []) P
last_is h P p = (h, record { earlier = []; split = refl }, p)

ended_later : (hs ks : List Heard) (P : Heard → Type 0) → EndedBy ks P → EndedBy (hs ++ ks) P
ended_later hs ks P (h, ends, p) = (h, record { earlier = hs ++ ends.earlier; split = ap (λ xs. hs ++ xs) ends.split ∙ sym (append_assoc hs ends.earlier (h ∷ [])) }, p)

module _ {L : Type 0} (m : LinkModel L) (client host base : List ℕ) where
  -- a question has no answer
  pub not_asked : (a b : L) (e : AskError) → AskRefused m a b e → HearsUntilThat m client host a b (sync_of_ask e) (λ hs. HeardRefusedAsk hs e) → (IsHonest m a client → NoReply e) → Refuses m client host base a b (of_ask e)
  not_asked a b asking.Link rose heard none = record { fault = rose; heard = λ tells. (let h = heard tells in (h.0, h.1, tt)); honest = λ honest. tt }
  not_asked a b asking.Memory rose heard none = record { fault = tt; heard = λ tells. (let h = heard tells in (h.0, h.1, tt)); honest = λ honest. tt }
  not_asked a b (asking.Reply kind) rose heard none = record {
    fault = tt;
    heard = λ tells. (let h = heard tells in (h.0, h.1, (h.2.0, record { earlier = []; split = h.2.1 }, h.2.2)));
    honest = λ honest. no_reply (none honest);
  }
    where
      no_reply : NoReply (asking.Reply kind) → ⊥
      no_reply (inl e) = cc
      no_reply (inr e) = cc

  -- its answer can't be taken
  module _ (a b : L) (old : Folded) (way : IsHonest m a client → IsOnTheWay (m.chain a) base old) (on : IsHonest m a client → GrowsOn m a b client) where
    pub not_taken : (id segment : List ℕ) (e : AuditError) → HearsOne m client host a b (child_heard client old.at (answers.Found id segment)) → (IsHonest m a client → IsChildAnswer m a b old.at (answers.Found id segment))
        → IsNotTaken id segment e → Refuses m client host base a b e
    not_taken id segment Memory heard says not = record { fault = tt; heard = λ tells. (child_heard client old.at (answers.Found id segment) ∷ [], inl (heard tells), tt); honest = λ honest. tt }
    not_taken id segment Link heard says not = absurd not
    not_taken id segment (Reply kind) heard says not = absurd not
    not_taken id segment (Gone v) heard says not = absurd not
    not_taken id segment (Segment v) heard says (same, (error, unread, other)) = subst (λ x. Refuses m client host base a b (Segment x)) (sym same) (record {
      fault = tt;
      heard = λ tells. (child_heard client old.at (answers.Found id segment) ∷ [], heard tells, last_is (child_heard client old.at (answers.Found id segment)) _ (record { parent = old.at; segment = segment; reply_is = refl; error = error; unread = unread; other = other }));
      honest = λ honest. (let s = says honest in record { parent = old.at; segment = segment; between = between_grows s.at (m.chain b) old.at id (version id old.at segment ∷ []) s.says s.given.after; error = error; unread = unread; other = other });
    })

    -- the server does not know the version
    pub not_known : HearsOne m client host a b (child_heard client old.at answers.Gone) → (IsHonest m a client → IsChildAnswer m a b old.at answers.Gone) → Refuses m client host base a b (Gone old.at)
    not_known heard says = record {
      fault = tt;
      heard = λ tells. (child_heard client old.at answers.Gone ∷ [], heard tells, inr (last_is (child_heard client old.at answers.Gone) _ (refl, refl)));
      honest = λ honest. (let s = says honest in absurd (s.says (way_is_known (m.chain a) s.at base old s.given.before (way honest))));
    }

    -- there is none after it
    pub not_there : ¬ (old.at ≡ base) → HearsOne m client host a b (child_heard client old.at answers.UpToDate) → (IsHonest m a client → IsChildAnswer m a b old.at answers.UpToDate) → Refuses m client host base a b (Gone base)
    not_there apart heard says = record {
      fault = tt;
      heard = λ tells. (child_heard client old.at answers.UpToDate ∷ [], heard tells, inl (refl, (old.at, last_is (child_heard client old.at answers.UpToDate) _ (refl, refl))));
      honest = λ honest. (let s = says honest in (refl, base_unknown (m.chain a) s.at (m.chain b) base old (on honest).whole s.given.before s.given.after apart (way honest) s.says));
    }

    -- it is taken
    pub taken : (new : Folded) (id segment : List ℕ) → ¬ (old.at ≡ base) → (IsHonest m a client → IsChildAnswer m a b old.at (answers.Found id segment)) → TakesVersion old new id segment → IsHonest m a client → IsOnTheWay (m.chain b) base new
    taken new id segment apart says takes honest =
        let s = says honest in
        on_the_way (m.chain a) (m.chain b) base id segment old new (on honest).whole (on honest).grows apart (way honest) (between_grows s.at (m.chain b) old.at id (version id old.at segment ∷ []) s.says s.given.after) takes

  -- ---- after what was asked before

  fault_later : (first a b : L) (e : AuditError) → Asks m client host first a → CountsFault m a b e → CountsFault m first b e
  fault_later first a b Link asks rose = (let kept = asks.kept.faults in omega (arith, kept, rose))
  fault_later first a b (Reply kind) asks rose = tt
  fault_later first a b (Gone v) asks rose = tt
  fault_later first a b (Segment v) asks rose = tt
  fault_later first a b Memory asks rose = tt

  ends_later : (hs ks : List Heard) (e : AuditError) → EndsRefused client base ks e → EndsRefused client base (hs ++ ks) e
  ends_later hs ks Link ends = tt
  ends_later hs ks Memory ends = tt
  ends_later hs ks (Reply kind) ends = ended_later hs ks _ ends
  ends_later hs ks (Segment v) ends = ended_later hs ks _ ends
  ends_later hs ks (Gone v) (inl (same, (at, ends))) = inl (same, (at, ended_later hs ks _ ends))
  ends_later hs ks (Gone v) (inr ends) = inr (ended_later hs ks _ ends)

  honest_later : (first a b : List Version) (e : AuditError) → Grows first a → HonestRefused base a b e → HonestRefused base first b e
  honest_later first a b Link grows is = tt
  honest_later first a b Memory grows is = tt
  honest_later first a b (Reply kind) grows is = is
  honest_later first a b (Segment v) grows is = is
  honest_later first a b (Gone v) grows is = (is.0, λ known. is.1 (known_grows first a base grows known))

  pub refused_later : (first a b : L) (e : AuditError) → Asks m client host first a → (IsTrue (m.tells_list first) → (hs : List Heard) × Hears m client host first a hs) → Refuses m client host base a b e → Refuses m client host base first b e
  refused_later first a b e asks before refuses = record {
    fault = fault_later first a b e asks refuses.fault;
    heard = λ tells. (let one = before tells in let two = refuses.heard (tells_on m client host first a asks tells) in
        (one.0 ++ two.0, hears_until_on m client host first a b one.0 two.0 (as_sync e) one.1 two.1, ends_later one.0 two.0 e two.2));
    honest = λ honest. honest_later (m.chain first) (m.chain a) (m.chain b) e (asks.grows honest).grows (refuses.honest (honest_on m client host first a asks honest));
  }

  -- memory ran out after what was asked
  pub no_memory : (first a : L) → (IsTrue (m.tells_list first) → (hs : List Heard) × Hears m client host first a hs) → Refuses m client host base first a Memory
  no_memory first a before = record { fault = tt; heard = λ tells. (let hs = before tells in (hs.0, inl hs.1, tt)); honest = λ honest. tt }
