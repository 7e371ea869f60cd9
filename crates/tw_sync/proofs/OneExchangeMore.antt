-- What one exchange more makes of a sync that asks for the version after its cursor.
use Rattle.std.proofs.Common.{◌≡◌, ℕ, ◌+◌, ◌*◌, ◌≤◌, ◌||◌, length, List, [], ◌∷◌, ◌++◌, Ok, refl, sym, ap, subst, ◌∙◌, arith, inl}
use Rattle.std.proofs.Math.Bool.{or-false}
use Rattle.std.proofs.lemmas.List.{append-nil}
use Rattle.std.proofs.lemmas.List.Recursion.{or_push}
use Rattle.tw_model.specs.declared.SyncOp.{SyncOp}
use Rattle.tw_protocol.specs.Chain.{Version}
use Rattle.tw_protocol.specs.Answer.{version}
use Rattle.tw_http.specs.Link.{LinkModel, IsHonest}
use Rattle.tw_http.specs.declared.message.Response.TheVariants as replies
use Rattle.tw_state.specs.State.{State}
use Rattle.tw_path.specs.Fold.{Reads}
use Rattle.tw_path.specs.Path.{Leg, versions_of, added_of}
use Rattle.tw_path.specs.Path.Leg.{Pull}
use Rattle.tw_path.proofs.Reading.{reads-append, reads_last}
use Rattle.tw_sync.specs.Replies.Heard.{Heard, Hears, HearsUntilThat, HearsOne, versions_of as versions_told, conflicts_of, brought_bytes, versions_in}
use Rattle.tw_sync.specs.Replies.Heard.{told_as, told_in, wants_snapshot, wanted_in}
use Rattle.tw_sync.specs.Replies.Answers.{IsLinkKept, GrowsOn, IsChildAnswer, child_heard, add_heard, HeardRefusedAsk, AskRefused}
use Rattle.tw_sync.specs.Ends.Refused.{EndedBy, IsWelcome, AsksOfChain, LeadsOn, IsLastReply}
use Rattle.tw_sync.specs.Way.Cursor.{place, TakesVersion}
use Rattle.tw_sync.specs.Way.Progress.{HeardSoFar, HasAsked, ends_late, Asks, IsPulling, HasPulled}
use Rattle.tw_sync.specs.declared.ask.ChildAnswer.{ChildAnswer}
use Rattle.tw_sync.specs.declared.ask.ChildAnswer.TheVariants.{Found, UpToDate}
use Rattle.tw_sync.specs.declared.ask.AddAnswer.{AddAnswer}
use Rattle.tw_sync.specs.declared.cursor.Cursor.{Cursor}
use Rattle.tw_sync.specs.Ends.Causes.{of_ask}
use Rattle.tw_sync.specs.declared.error.AskError.{AskError}
use Rattle.tw_sync.proofs.Legs.{versions_on, added_pull}
use Rattle.tw_sync.proofs.CursorInChain.{taken_on}
use Rattle.tw_sync.proofs.Hearing.{kept_on, hears_on, all-append, brought-append, pulled_bytes-append, conflicts-append, versions_in-append, told_in-append}
use Rattle.tw_sync.proofs.ExpectedReplies.{child_leads, up_to_date_leads, followed-append, ends_late-append}
use Rattle.tw_sync.proofs.Results.{ended_by}
use Rattle.tw_sync.proofs.HonestProgress.{come_found, come_to_end}

-- ---- one exchange more

-- a question was asked, and its reply read
pub record IsAsked {L : Type 0} (m : LinkModel L) (client host : List ℕ) (a b : L) (h : Heard) : Type 0 where
  pub kept : IsLinkKept m a b
  pub count : m.exchanges b ≤ m.exchanges a + 1
  pub heard : HearsOne m client host a b h
  pub welcome : IsWelcome h
  pub of_chain : AsksOfChain h.asked

-- what an answer to get-child-version says over an honest link
pub record SaysTruly {L : Type 0} (m : LinkModel L) (client : List ℕ) (a b : L) (parent : List ℕ) (answer : ChildAnswer) : Type 0 where
  pub on : GrowsOn m a b client
  pub mine : m.own b ≡ m.own a
  pub says : IsChildAnswer m a b parent answer

-- an answer was asked for, whichever it is
module _ {L : Type 0} (m : LinkModel L) (client host : List ℕ) (a b : L) (kept : IsLinkKept m a b) (count : m.exchanges b ≤ m.exchanges a + 1) where
  pub child_is_asked : (parent : List ℕ) (answer r : ChildAnswer) → answer ≡ r → HearsOne m client host a b (child_heard client parent answer) → IsWelcome (child_heard client parent answer) → IsAsked m client host a b (child_heard client parent r)
  child_is_asked parent answer r is heard welcome = subst (λ x. IsAsked m client host a b (child_heard client parent x)) is (record { kept = kept; count = count; heard = heard; welcome = welcome; of_chain = tt })

  pub add_is_asked : (parent segment : List ℕ) (answer r : AddAnswer) → answer ≡ r → HearsOne m client host a b (add_heard client parent segment answer) → IsWelcome (add_heard client parent segment answer) → IsAsked m client host a b (add_heard client parent segment r)
  add_is_asked parent segment answer r is heard welcome = subst (λ x. IsAsked m client host a b (add_heard client parent segment x)) is (record { kept = kept; count = count; heard = heard; welcome = welcome; of_chain = tt })

pub child_says_truly : {L : Type 0} (m : LinkModel L) (client : List ℕ) (a b : L) (parent : List ℕ) (answer r : ChildAnswer) → answer ≡ r → GrowsOn m a b client → m.own b ≡ m.own a → IsChildAnswer m a b parent answer → SaysTruly m client a b parent r
child_says_truly m client a b parent answer r is on own says = subst (SaysTruly m client a b parent) is (record { on = on; mine = own; says = says })

-- a question was refused
pub record RefusedAsk {L : Type 0} (m : LinkModel L) (client host : List ℕ) (a b : L) (e : AskError) : Type 0 where
  pub kept : IsLinkKept m a b
  pub count : m.exchanges b ≤ m.exchanges a + 1
  pub refused : AskRefused m a b e
  pub heard : HearsUntilThat m client host a b (of_ask e) (λ hs. HeardRefusedAsk hs e)

-- what one reply told of goes to the path, and what it brought to the cursor
pub record IsCounted (legs more : List Leg) (p q : Cursor) (h : Heard) : Type 0 where
  pub told : versions_of more ≡ versions_of legs ++ told_as h.asked h.reply
  pub ops : List SyncOp
  pub reads : Reads (versions_in (h ∷ [])) ops
  pub versions : q.versions ≡ p.versions + versions_told h.reply
  pub bytes : q.bytes ≡ p.bytes + length (brought_bytes h.reply)
  pub conflicts : q.conflicts ≡ p.conflicts + conflicts_of h.reply
  pub wanted : q.wanted ≡ (p.wanted || wants_snapshot h.reply)

pub heard_on : {L : Type 0} (m : LinkModel L) (client host : List ℕ) (first a b : L) (legs more : List Leg) (p q : Cursor) (Q R : List Heard → Type 0) (h : Heard) → HeardSoFar m client host first a legs p Q → Hears m client host a b (h ∷ []) → LeadsOn h → IsCounted legs more p q h
    → ((hs : List Heard) → Q hs → ends_late hs ≡ 1 → versions_told h.reply ≡ 1) → ((hs : List Heard) → Q hs → R (hs ++ h ∷ [])) → HeardSoFar m client host first b more q R
heard_on m client host first a b legs more p q Q R h s heard leads counted next then = record {
  hs = s.hs ++ h ∷ [];
  hears = hears_on m client host first a b s.hs (h ∷ []) s.hears heard;
  told = told_in-append s.hs (h ∷ []) ∙ ap (λ vs. told_in s.hs ++ vs) (append-nil (told_as h.asked h.reply)) ∙ ap (λ vs. vs ++ told_as h.asked h.reply) s.told ∙ sym counted.told;
  ops = s.ops ++ counted.ops;
  reads = subst (λ vs. Reads vs (s.ops ++ counted.ops)) (sym (versions_in-append s.hs (h ∷ []))) (reads-append (versions_in s.hs) (versions_in (h ∷ [])) s.ops counted.ops s.reads counted.reads);
  brought_is = (let e = brought-append s.hs (h ∷ []) in let n = s.brought_is in let o = counted.versions in omega (arith, e, n, o));
  bytes_are = (let e = pulled_bytes-append s.hs (h ∷ []) in let n = s.bytes_are in let o = counted.bytes in omega (arith, e, n, o));
  conflicts_are = (let e = conflicts-append s.hs (h ∷ []) in let n = s.conflicts_are in let o = counted.conflicts in omega (arith, e, n, o));
  wanted_is = or_push wanted_in (λ x. wants_snapshot x.reply) refl (λ x xs. refl) s.hs h ∙ ap (λ b. b || wants_snapshot h.reply) s.wanted_is ∙ sym counted.wanted;
  each = all-append LeadsOn s.hs (h ∷ []) s.each (leads, tt);
  followed = followed-append s.hs h s.followed (next s.hs s.so);
  so = then s.hs s.so;
}

pub asked_on : {L : Type 0} (m : LinkModel L) (client host : List ℕ) (first a b : L) (legs more : List Leg) (p q : Cursor) (besides left : ℕ) (Q R : List Heard → Type 0) (h : Heard) → HasAsked m client host first a legs p besides Q → IsAsked m client host a b h → ¬ (h.reply ≡ Ok replies.Gone) → IsCounted legs more p q h
    → p.versions + length (added_of legs) + 2 * p.conflicts + besides + 1 ≤ q.versions + length (added_of more) + 2 * q.conflicts + left → ((hs : List Heard) → Q hs → ends_late hs ≡ 1 → versions_told h.reply ≡ 1) → ((hs : List Heard) → Q hs → R (hs ++ h ∷ [])) → HasAsked m client host first b more q left R
asked_on m client host first a b legs more p q besides left Q R h s asked known counted room next then = record {
  kept = kept_on m first a b s.kept asked.kept;
  count = (let n = s.count in let o = asked.count in omega (arith, n, o, room));
  heard = λ tells. heard_on m client host first a b legs more p q Q R h (s.heard tells) (asked.heard (s.kept.tells_list ∙ tells)) (asked.welcome, known, asked.of_chain) counted next then;
}

-- ---- the version behind the cursor

-- it is taken
pub pulling_on : {L : Type 0} (m : LinkModel L) (client host : List ℕ) (state : State) (first a b : L) (p q : Cursor) (Q : List Heard → Type 0) (id segment : List ℕ) → Asks m client host state first a p Q → IsAsked m client host a b (child_heard client p.walker.at (Found id segment))
    → (IsHonest m a client → SaysTruly m client a b p.walker.at (Found id segment)) → TakesVersion state.tasks p q id segment → IsPulling m client host state first b q
pulling_on m client host state first a b p q Q id segment s asked tells t =
    let h = child_heard client p.walker.at (Found id segment) in
    let v : Version = version id p.walker.at segment in
    let more : List Leg = s.legs ++ Pull v t.ops ∷ [] in
    record {
      legs = more;
      on_path = taken_on state s.legs p q id segment s.on_path t;
      tries = (let n = s.tries in let o = t.conflicts in omega (arith, n, o));
      asked = asked_on m client host first a b s.legs more p q 0 0 Q (λ hs. ends_late hs ≡ 0) h s.asked asked (child_leads h.reply id p.walker.at segment refl)
          (record { told = versions_on s.legs (Pull v t.ops); ops = t.ops; reads = reads_last v t.ops t.reads; versions = t.versions; bytes = t.bytes; conflicts = (let o = t.conflicts in omega (arith, o)); wanted = t.wanted ∙ sym (or-false p.wanted) })
          (let n = t.versions in let o = t.conflicts in let c = ap length (added_pull s.legs v t.ops) in omega (arith, n, o, c)) (λ hs u late. refl) (λ hs u. ends_late-append hs h);
      come = λ honest. (let c = s.come honest in let r = tells c.on.honest in come_found m client state first a b s.legs p s.on_path.stands.at c r.on q id segment r.mine r.says t);
    }

-- there is none
pub pulled_up : {L : Type 0} (m : LinkModel L) (client host : List ℕ) (state : State) (first a b : L) (p : Cursor) → IsPulling m client host state first a p → IsAsked m client host a b (child_heard client p.walker.at UpToDate)
    → (IsHonest m a client → SaysTruly m client a b p.walker.at UpToDate) → HasPulled m client host state first b p
pulled_up m client host state first a b p s asked tells =
    let h = child_heard client p.walker.at UpToDate in
    record {
      legs = s.legs;
      on_path = s.on_path;
      tries = s.tries;
      asked = asked_on m client host first a b s.legs s.legs p p 0 1 (λ hs. ends_late hs ≡ 0) (λ hs. EndedBy hs (IsLastReply client (place state s.legs).at)) h s.asked asked (up_to_date_leads h.reply refl)
          (record { told = sym (append-nil (versions_of s.legs)); ops = []; reads = refl; versions = omega arith; bytes = omega arith; conflicts = omega arith; wanted = sym (or-false p.wanted) })
          (omega arith) (λ hs calm late. absurd (omega (arith, calm, late)))
          (λ hs calm. ended_by hs h (IsLastReply client (place state s.legs).at) (subst (λ x. IsLastReply client x h) s.on_path.stands.at (inl (refl, refl))));
      come = λ honest. (let c = s.come honest in let r = tells c.on.honest in come_to_end m client state first a b s.legs p s.on_path.stands.at c r.on r.mine r.says);
    }
