-- What is answered over an honest link.
use Rattle.std.proofs.Common.{◌≡◌, ℕ, inl, inr, Bool, false, List, [], ◌∷◌, ◌++◌, Result, Ok, Err, IsTrue, refl, sym, ap, subst, ◌∙◌, ◌⊎◌}
use Rattle.std.proofs.lemmas.List.{append-nil}
use Rattle.uuid.specs.Parts.{zero_bytes}
use Rattle.tw_protocol.specs.Chain.{Version, IsBetween, Grows, same_id, latest}
use Rattle.tw_protocol.specs.Answer as protocol
use Rattle.tw_protocol.specs.Answer.{version, answer, child_behind}
use Rattle.tw_protocol.specs.Answer.Ask.{Add}
use Rattle.tw_protocol.specs.Snapshots.{Account, is_wanted}
use Rattle.tw_http.specs.declared.message.Asked.TheVariants as asked
use Rattle.tw_http.specs.declared.message.Request.{Request}
use Rattle.tw_http.specs.declared.message.Request.TheVariants as asks
use Rattle.tw_http.specs.declared.message.Response.{Response}
use Rattle.tw_http.specs.declared.message.Response.TheVariants as replies
use Rattle.tw_http.specs.declared.message.HttpError.{HttpError}
use Rattle.tw_http.specs.Link.{LinkModel, IsHonest, IsChainOf, IsServedChain, Serves, MayServe}
use Rattle.tw_http.specs.Responses.{IsResponseAnswer}
use Rattle.tw_http.specs.Serving.{says, account_after}
use Rattle.tw_sync.specs.Replies.Heard.{heard}
use Rattle.tw_sync.specs.Ends.Refused.{IsBadReply}
use Rattle.tw_sync.specs.Replies.Answers.{IsLinkKept, GrowsOn, ChildSays, IsChildAnswer, child_response, IsAddedOne, IsAddAnswer, add_response}
use Rattle.tw_sync.specs.Replies.Answers.{IsBadlyAnswered, NoReply, AddRefused}
use Rattle.tw_sync.specs.declared.ask.ChildAnswer.{ChildAnswer}
use Rattle.tw_sync.specs.declared.ask.ChildAnswer.TheVariants as child
use Rattle.tw_sync.specs.declared.ask.AddAnswer.{AddAnswer}
use Rattle.tw_sync.specs.declared.ask.AddAnswer.TheVariants as add
use Rattle.tw_sync.specs.declared.error.ReplyKind.{ReplyKind}
use Rattle.tw_sync.specs.declared.error.ReplyKind.TheVariants.{Cut, Head, Header, Length, TooLong, Parent, Nil, Status}
use Rattle.tw_sync.specs.declared.error.AskError.{AskError}
use Rattle.tw_sync.specs.declared.error.AskError.TheVariants as asking
use Rattle.tw_sync.proofs.BadReplies.{apart}
use Rattle.tw_sync.proofs.AnswerFacts.{ChildFact, child_fact, AddFact, add_fact}
use Rattle.tw_sync.proofs.Served.{served_at, reply_is, serves_after, grows_past, add_mine, child_mine}

version_is : (id parent segment : List ℕ) (v : Version) → id ≡ v.id → parent ≡ v.parent → segment ≡ v.segment → v ≡ version id parent segment
version_is id parent segment v a b c = λ i. record { id = sym a i; parent = sym b i; segment = sym c i }

-- ---- get-child-version

same_child : {id parent segment id2 parent2 segment2 : List ℕ} → ◌≡◌ {A = Response} (replies.Child id parent segment) (replies.Child id2 parent2 segment2) → (id ≡ id2) × (parent ≡ parent2) × (segment ≡ segment2)
same_child e = (cc, cc, cc)

ok_same : {r s : Response} → ◌≡◌ {A = Result Response HttpError} (Ok r) (Ok s) → r ≡ s
ok_same e = cc

child_says : (at : List Version) (parent : List ℕ) (w : Bool) (t : protocol.Finding) (a : ChildAnswer) → ChildFact at parent t → child_response parent a ≡ says t w → ChildSays at parent a
child_says at parent w (protocol.Finding.Added id) a fact e = absurd fact
child_says at parent w (protocol.Finding.Conflict id) a fact e = absurd fact
child_says at parent w protocol.Finding.Taken a fact e = absurd fact
child_says at parent w (protocol.Finding.Found v) (child.Found id segment) fact e =
    let same : (id ≡ v.id) × (parent ≡ v.parent) × (segment ≡ v.segment) = same_child e in
    subst (λ i. IsBetween at parent i (version id parent segment ∷ [])) (sym same.0) (subst (λ w. IsBetween at parent v.id (w ∷ [])) (version_is id parent segment v same.0 same.1 same.2) fact.2)
child_says at parent w (protocol.Finding.Found v) child.UpToDate fact e = let none : ⊥ = cc in absurd none
child_says at parent w (protocol.Finding.Found v) child.Gone fact e = let none : ⊥ = cc in absurd none
child_says at parent w protocol.Finding.UpToDate (child.Found id segment) fact e = let none : ⊥ = cc in absurd none
child_says at parent w protocol.Finding.UpToDate child.UpToDate fact e = fact
child_says at parent w protocol.Finding.UpToDate child.Gone fact e = let none : ⊥ = cc in absurd none
child_says at parent w protocol.Finding.Gone (child.Found id segment) fact e = let none : ⊥ = cc in absurd none
child_says at parent w protocol.Finding.Gone child.UpToDate fact e = let none : ⊥ = cc in absurd none
child_says at parent w protocol.Finding.Gone child.Gone fact e = fact

-- ---- bad replies

not_ok : {r : Result Response HttpError} {e : HttpError} {s : Response} → r ≡ Err e → r ≡ Ok s → ⊥
not_ok a b = let same : ◌≡◌ {A = Result Response HttpError} (Err _) (Ok _) = sym a ∙ b in cc

to_same : {r : Result Response HttpError} {s t : Response} → r ≡ Ok s → r ≡ Ok t → t ≡ s
to_same a b = ok_same (sym b ∙ a)

same_asked : {client parent client2 parent2 : List ℕ} → ◌≡◌ {A = Request} (asks.Child client parent) (asks.Child client2 parent2) → parent ≡ parent2
same_asked e = cc

-- what get-child-version is told is a response of these three
child_parent : (at : List Version) (parent : List ℕ) (w : Bool) (t : protocol.Finding) (id named segment : List ℕ) → ChildFact at parent t → says t w ≡ replies.Child id named segment → (named ≡ parent) × ¬ (id ≡ zero_bytes)
child_parent at parent w (protocol.Finding.Found v) id named segment fact e =
    let same : (v.id ≡ id) × (v.parent ≡ named) × (v.segment ≡ segment) = same_child e in
    (sym same.1 ∙ fact.0, λ nil. fact.1 (same.0 ∙ nil))
child_parent at parent w (protocol.Finding.Added x) id named segment fact e = absurd fact
child_parent at parent w (protocol.Finding.Conflict x) id named segment fact e = absurd fact
child_parent at parent w protocol.Finding.UpToDate id named segment fact e = let none : ⊥ = cc in absurd none
child_parent at parent w protocol.Finding.Gone id named segment fact e = let none : ⊥ = cc in absurd none
child_parent at parent w protocol.Finding.Taken id named segment fact e = absurd fact

-- none of the other responses is told
abbrev Untold : Response → Type 0
Untold replies.Bad = Unit {0}
Untold replies.TooLong = Unit {0}
Untold replies.Taken = Unit {0}
Untold (replies.Added id wanted) = Unit {0}
Untold (replies.Conflict last) = ⊥
Untold (replies.Child id parent segment) = ⊥
Untold replies.UpToDate = ⊥
Untold replies.Gone = ⊥
Untold replies.Stored = Unit {0}
Untold (replies.Snapshot version bytes) = Unit {0}

child_untold : (at : List Version) (parent : List ℕ) (w : Bool) (t : protocol.Finding) (s : Response) → ChildFact at parent t → says t w ≡ s → Untold s → ⊥
child_untold at parent w (protocol.Finding.Found v) s fact e u = subst Untold (sym e) u
child_untold at parent w (protocol.Finding.Added x) s fact e u = fact
child_untold at parent w (protocol.Finding.Conflict x) s fact e u = fact
child_untold at parent w protocol.Finding.UpToDate s fact e u = subst Untold (sym e) u
child_untold at parent w protocol.Finding.Gone s fact e u = subst Untold (sym e) u
child_untold at parent w protocol.Finding.Taken s fact e u = fact

child_never : (client parent : List ℕ) (at : List Version) (w : Bool) (t : protocol.Finding) (kind : ReplyKind) (r : Result Response HttpError) → ChildFact at parent t → r ≡ Ok (says t w) → IsBadReply kind (heard (asks.Child client parent) r) → ⊥
child_never client parent at w t Cut r fact e bad = not_ok bad e
child_never client parent at w t Head r fact e bad = not_ok bad e
child_never client parent at w t Header r fact e bad = not_ok bad e
child_never client parent at w t Length r fact e bad = not_ok bad e
child_never client parent at w t TooLong r fact e bad = not_ok bad e
child_never client parent at w t Parent r fact e (c, named_asked, id, named, segment, asked_is, reply, other) =
    other ((child_parent at parent w t id named segment fact (to_same reply e)).0 ∙ same_asked asked_is)
child_never client parent at w t Nil r fact e (inl (wanted, reply)) = child_untold at parent w t (replies.Added zero_bytes wanted) fact (to_same reply e) tt
child_never client parent at w t Nil r fact e (inr (c, named, segment, asked_is, reply)) = (child_parent at parent w t zero_bytes named segment fact (to_same reply e)).1 refl
child_never client parent at w t (Status code) r fact e (inl bad) = not_ok bad e
child_never client parent at w t (Status code) r fact e (inr (inl bad)) = child_untold at parent w t replies.Bad fact (to_same bad.1 e) tt
child_never client parent at w t (Status code) r fact e (inr (inr (inl bad))) = child_untold at parent w t replies.TooLong fact (to_same bad.1 e) tt
child_never client parent at w t (Status code) r fact e (inr (inr (inr bad))) = child_untold at parent w t replies.Taken fact (to_same bad.1 e) tt

same_added : {x y : List ℕ} {v w : Bool} → ◌≡◌ {A = Response} (replies.Added x v) (replies.Added y w) → x ≡ y
same_added e = cc

same_conflict : {x y : List ℕ} → ◌≡◌ {A = Response} (replies.Conflict x) (replies.Conflict y) → x ≡ y
same_conflict e = cc

-- what add-version is told is one of these three
add_nil : (at : List Version) (parent segment id : List ℕ) (added : List Version) (w : Bool) (t : protocol.Finding) (new : List ℕ) (wanted : Bool) → AddFact at parent segment id added t → says t w ≡ replies.Added new wanted → new ≡ id
add_nil at parent segment id added w (protocol.Finding.Added x) new wanted fact e = same_added (sym e) ∙ fact.0
add_nil at parent segment id added w (protocol.Finding.Found v) new wanted fact e = absurd fact
add_nil at parent segment id added w (protocol.Finding.Conflict x) new wanted fact e = let none : ⊥ = cc in absurd none
add_nil at parent segment id added w protocol.Finding.UpToDate new wanted fact e = absurd fact
add_nil at parent segment id added w protocol.Finding.Gone new wanted fact e = absurd fact
add_nil at parent segment id added w protocol.Finding.Taken new wanted fact e = let none : ⊥ = cc in absurd none

-- none of the other responses is told
abbrev Unsaid : Response → Type 0
Unsaid replies.Bad = Unit {0}
Unsaid replies.TooLong = Unit {0}
Unsaid replies.Taken = ⊥
Unsaid (replies.Added id wanted) = ⊥
Unsaid (replies.Conflict last) = ⊥
Unsaid (replies.Child id parent segment) = Unit {0}
Unsaid replies.UpToDate = Unit {0}
Unsaid replies.Gone = Unit {0}
Unsaid replies.Stored = Unit {0}
Unsaid (replies.Snapshot version bytes) = Unit {0}

add_unsaid : (at : List Version) (parent segment id : List ℕ) (added : List Version) (w : Bool) (t : protocol.Finding) (s : Response) → AddFact at parent segment id added t → says t w ≡ s → Unsaid s → ⊥
add_unsaid at parent segment id added w (protocol.Finding.Found v) s fact e u = fact
add_unsaid at parent segment id added w (protocol.Finding.Added x) s fact e u = subst Unsaid (sym e) u
add_unsaid at parent segment id added w (protocol.Finding.Conflict x) s fact e u = subst Unsaid (sym e) u
add_unsaid at parent segment id added w protocol.Finding.UpToDate s fact e u = fact
add_unsaid at parent segment id added w protocol.Finding.Gone s fact e u = fact
add_unsaid at parent segment id added w protocol.Finding.Taken s fact e u = subst Unsaid (sym e) u

add_taken : (at : List Version) (parent segment id : List ℕ) (added : List Version) (w : Bool) (t : protocol.Finding) → AddFact at parent segment id added t → says t w ≡ replies.Taken → added ≡ []
add_taken at parent segment id added w (protocol.Finding.Found v) fact e = absurd fact
add_taken at parent segment id added w (protocol.Finding.Added x) fact e = let none : ⊥ = cc in absurd none
add_taken at parent segment id added w (protocol.Finding.Conflict x) fact e = fact.0
add_taken at parent segment id added w protocol.Finding.UpToDate fact e = absurd fact
add_taken at parent segment id added w protocol.Finding.Gone fact e = absurd fact
add_taken at parent segment id added w protocol.Finding.Taken fact e = fact

-- over an honest link the one bad reply is that the drawn id is taken
add_only : (client parent segment id : List ℕ) (at added : List Version) (w : Bool) (t : protocol.Finding) (kind : ReplyKind) (r : Result Response HttpError) → AddFact at parent segment id added t → same_id id zero_bytes ≡ false → r ≡ Ok (says t w)
    → IsBadReply kind (heard (asks.Add client parent segment) r) → (kind ≡ Status 500) × (added ≡ [])
add_only client parent segment id at added w t Cut r fact real e bad = absurd (not_ok bad e)
add_only client parent segment id at added w t Head r fact real e bad = absurd (not_ok bad e)
add_only client parent segment id at added w t Header r fact real e bad = absurd (not_ok bad e)
add_only client parent segment id at added w t Length r fact real e bad = absurd (not_ok bad e)
add_only client parent segment id at added w t TooLong r fact real e bad = absurd (not_ok bad e)
add_only client parent segment id at added w t Parent r fact real e (c, named_asked, child_id, named, child_segment, asked_is, reply, other) =
    absurd (add_unsaid at parent segment id added w t (replies.Child child_id named child_segment) fact (to_same reply e) tt)
add_only client parent segment id at added w t Nil r fact real e (inl (wanted, reply)) = absurd (apart id zero_bytes real (sym (add_nil at parent segment id added w t zero_bytes wanted fact (to_same reply e))))
add_only client parent segment id at added w t Nil r fact real e (inr (c, named, child_segment, asked_is, reply)) =
    absurd (add_unsaid at parent segment id added w t (replies.Child zero_bytes named child_segment) fact (to_same reply e) tt)
add_only client parent segment id at added w t (Status code) r fact real e (inl bad) = absurd (not_ok bad e)
add_only client parent segment id at added w t (Status code) r fact real e (inr (inl bad)) = absurd (add_unsaid at parent segment id added w t replies.Bad fact (to_same bad.1 e) tt)
add_only client parent segment id at added w t (Status code) r fact real e (inr (inr (inl bad))) = absurd (add_unsaid at parent segment id added w t replies.TooLong fact (to_same bad.1 e) tt)
add_only client parent segment id at added w t (Status code) r fact real e (inr (inr (inr bad))) = (ap (λ c. Status c) bad.0, add_taken at parent segment id added w t fact (to_same bad.1 e))

module _ {L : Type 0} (m : LinkModel L) (old new : L) where
  abbrev ServesLink : Request → List ℕ → Type 0
  ServesLink request reply = Serves (m.chain old) (m.chain new) (m.own old) (m.own new) request reply

  -- whether a snapshot is wanted after a request
  abbrev wanted_by : Account → Request → (id : List ℕ) → Bool
  wanted_by at request id = is_wanted (account_after at request id)

  abbrev MayServeLink : Request → Type 0
  MayServeLink request = MayServe (m.chain old) (m.chain new) (m.own old) (m.own new) request

  -- a link that is kept is honest still
  pub still_honest : (client : List ℕ) → IsLinkKept m old new → IsHonest m old client → IsHonest m new client
  still_honest client kept h = record { honest = subst IsTrue (sym kept.honest) h.honest; tells = subst IsTrue (sym kept.tells_chain) h.tells; of_client = kept.client ∙ h.of_client }

  pub chain_served : (client : List ℕ) → IsLinkKept m old new → IsHonest m old client → IsChainOf m new → IsServedChain (m.chain new)
  chain_served client kept h is = let now = still_honest client kept h in is (record { honest = now.honest; tells = now.tells })

  pub grown : (client : List ℕ) → IsLinkKept m old new → IsHonest m old client → IsChainOf m new → Grows (m.chain old) (m.chain new) → GrowsOn m old new client
  grown client kept h is grows = record { honest = still_honest client kept h; whole = (chain_served client kept h is).whole; grows = grows }

  -- get-child-version adds nothing
  pub child_own : (client parent reply : List ℕ) → ServesLink (asks.Child client parent) reply → m.own new ≡ m.own old
  child_own client parent reply s = child_mine (m.chain old) (m.chain new) (m.own old) (m.own new) client parent reply s

  pub child_may_own : (client parent : List ℕ) → MayServeLink (asks.Child client parent) → m.own new ≡ m.own old
  child_may_own client parent (inl others) = others.mine
  child_may_own client parent (inr (reply, s)) = child_own client parent reply s

  pub child_answered : (client parent reply : List ℕ) (a : ChildAnswer) → ServesLink (asks.Child client parent) reply → IsServedChain (m.chain new) → IsResponseAnswer asked.Child reply (Ok (child_response parent a)) → IsChildAnswer m old new parent a
  child_answered client parent reply a s served read =
      let at : IsServedChain s.at.chain = served_at (m.chain old) (m.chain new) (m.own old) (m.own new) (asks.Child client parent) reply s served in
      record {
        at = s.at.chain;
        given = record { before = s.before; after = serves_after (m.chain old) (m.chain new) (m.own old) (m.own new) (asks.Child client parent) reply s };
        says = child_says s.at.chain parent (wanted_by s.at (asks.Child client parent) s.id) (child_behind parent zero_bytes s.at.chain) a (child_fact s.at.chain parent at.whole)
            (ok_same (reply_is (m.chain old) (m.chain new) (m.own old) (m.own new) (asks.Child client parent) reply s served (Ok (child_response parent a)) read));
      }

  pub child_no_reply : (client parent reply : List ℕ) (e : AskError) → ServesLink (asks.Child client parent) reply → IsServedChain (m.chain new) → IsBadlyAnswered (asks.Child client parent) reply e → NoReply e
  child_no_reply client parent reply (asking.Reply kind) s served (r, read, bad) =
      let at : IsServedChain s.at.chain = served_at (m.chain old) (m.chain new) (m.own old) (m.own new) (asks.Child client parent) reply s served in
      absurd (child_never client parent s.at.chain (wanted_by s.at (asks.Child client parent) s.id) (child_behind parent zero_bytes s.at.chain) kind r (child_fact s.at.chain parent at.whole)
      (reply_is (m.chain old) (m.chain new) (m.own old) (m.own new) (asks.Child client parent) reply s served r read) bad)
  child_no_reply client parent reply asking.Memory s served b = inr refl
  child_no_reply client parent reply asking.Link s served b = absurd b

  -- ---- add-version

  added_one : (at : List Version) (parent segment id : List ℕ) (added : List Version) → Grows (m.chain old) at → latest at ≡ parent → Grows (at ++ added) (m.chain new) → m.own new ≡ m.own old ++ added → added ≡ version id parent segment ∷ []
      → IsAddedOne m old new (version id parent segment)
  added_one at parent segment id added before last after mine one =
      record { at = at; before = before; last = last; after = subst (λ vs. Grows (at ++ vs) (m.chain new)) one after; mine = mine ∙ ap (λ vs. m.own old ++ vs) one }

  none_added : (added : List Version) → m.own new ≡ m.own old ++ added → added ≡ [] → m.own new ≡ m.own old
  none_added added mine none = mine ∙ ap (λ vs. m.own old ++ vs) none ∙ append-nil (m.own old)

  abbrev MayOwn : (parent segment : List ℕ) → Type 0
  MayOwn parent segment = (m.own new ≡ m.own old) ⊎ ((id : List ℕ) × IsAddedOne m old new (version id parent segment))

  own_by : (at : List Version) (parent segment id : List ℕ) (added : List Version) (t : protocol.Finding) → AddFact at parent segment id added t → Grows (m.chain old) at → Grows (at ++ added) (m.chain new) → m.own new ≡ m.own old ++ added → MayOwn parent segment
  own_by at parent segment id added (protocol.Finding.Added x) fact before after mine = inr (id, added_one at parent segment id added before fact.2 after mine fact.1)
  own_by at parent segment id added (protocol.Finding.Conflict x) fact before after mine = inl (none_added added mine fact.0)
  own_by at parent segment id added protocol.Finding.Taken fact before after mine = inl (none_added added mine fact)
  own_by at parent segment id added (protocol.Finding.Found v) fact before after mine = absurd fact
  own_by at parent segment id added protocol.Finding.UpToDate fact before after mine = absurd fact
  own_by at parent segment id added protocol.Finding.Gone fact before after mine = absurd fact

  pub add_own : (client parent segment reply : List ℕ) → ServesLink (asks.Add client parent segment) reply → MayOwn parent segment
  add_own client parent segment reply s =
      let a = answer s.at.chain (Add parent segment) s.id in
      own_by s.at.chain parent segment s.id a.0 a.1 (add_fact s.at.chain parent segment s.id) s.before s.after (add_mine (m.chain old) (m.chain new) (m.own old) (m.own new) client parent segment reply s)

  pub add_may_own : (client parent segment : List ℕ) → MayServeLink (asks.Add client parent segment) → MayOwn parent segment
  add_may_own client parent segment (inl others) = inl others.mine
  add_may_own client parent segment (inr (reply, s)) = add_own client parent segment reply s

  says_by : (at : List Version) (parent segment id : List ℕ) (added : List Version) (w : Bool) (t : protocol.Finding) (a : AddAnswer) → AddFact at parent segment id added t → Grows (m.chain old) at → Grows (at ++ added) (m.chain new) → m.own new ≡ m.own old ++ added
      → add_response a ≡ says t w → IsAddAnswer m old new parent segment a
  says_by at parent segment id added w (protocol.Finding.Added x) (add.Added new_id wanted) fact before after mine e =
      subst (λ i. IsAddedOne m old new (version i parent segment)) (sym (same_added e ∙ fact.0)) (added_one at parent segment id added before fact.2 after mine fact.1)
  says_by at parent segment id added w (protocol.Finding.Added x) (add.Conflict last) fact before after mine e = let none : ⊥ = cc in absurd none
  says_by at parent segment id added w (protocol.Finding.Conflict x) (add.Added new_id wanted) fact before after mine e = let none : ⊥ = cc in absurd none
  says_by at parent segment id added w (protocol.Finding.Conflict x) (add.Conflict last) fact before after mine e =
      let same : last ≡ x = same_conflict e in
      record { at = at; given = record { before = before; after = grows_past at added (m.chain new) after }; is_last = fact.1 ∙ sym same; other = λ parent_is. fact.2 (sym same ∙ parent_is); mine = none_added added mine fact.0 }
  says_by at parent segment id added w protocol.Finding.Taken (add.Added new_id wanted) fact before after mine e = let none : ⊥ = cc in absurd none
  says_by at parent segment id added w protocol.Finding.Taken (add.Conflict last) fact before after mine e = let none : ⊥ = cc in absurd none
  says_by at parent segment id added w (protocol.Finding.Found v) a fact before after mine e = absurd fact
  says_by at parent segment id added w protocol.Finding.UpToDate a fact before after mine e = absurd fact
  says_by at parent segment id added w protocol.Finding.Gone a fact before after mine e = absurd fact

  pub add_answered : (client parent segment reply : List ℕ) (a : AddAnswer) → ServesLink (asks.Add client parent segment) reply → IsServedChain (m.chain new) → IsResponseAnswer asked.Add reply (Ok (add_response a)) → IsAddAnswer m old new parent segment a
  add_answered client parent segment reply a s served read =
      let x = answer s.at.chain (Add parent segment) s.id in
      says_by s.at.chain parent segment s.id x.0 (wanted_by s.at (asks.Add client parent segment) s.id) x.1 a (add_fact s.at.chain parent segment s.id) s.before s.after
      (add_mine (m.chain old) (m.chain new) (m.own old) (m.own new) client parent segment reply s)
      (ok_same (reply_is (m.chain old) (m.chain new) (m.own old) (m.own new) (asks.Add client parent segment) reply s served (Ok (add_response a)) read))

  pub add_refused : (client parent segment reply : List ℕ) (e : AskError) → ServesLink (asks.Add client parent segment) reply → IsServedChain (m.chain new) → IsBadlyAnswered (asks.Add client parent segment) reply e → AddRefused m old new parent segment e
  add_refused client parent segment reply (asking.Reply kind) s served (r, read, bad) =
      let x = answer s.at.chain (Add parent segment) s.id in
      let only = add_only client parent segment s.id s.at.chain x.0 (wanted_by s.at (asks.Add client parent segment) s.id) x.1 kind r (add_fact s.at.chain parent segment s.id) s.real
      (reply_is (m.chain old) (m.chain new) (m.own old) (m.own new) (asks.Add client parent segment) reply s served r read) bad in
      inr (ap (λ k. asking.Reply k) only.0, none_added x.0 (add_mine (m.chain old) (m.chain new) (m.own old) (m.own new) client parent segment reply s) only.1)
  add_refused client parent segment reply asking.Memory s served b = inl (inr refl, add_own client parent segment reply s)
  add_refused client parent segment reply asking.Link s served b = absurd b
