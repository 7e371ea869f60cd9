-- What an exchange over a link in memory does to its chain.
use Rattle.std.proofs.Common.{◌≡◌, ◌∙◌, inl, inr, ℕ, ◌+◌, ◌/◌, ◌%◌, ◌<◌, ◌≤◌, ◌&&◌, Bool, true, false, cond, if◌then◌else◌, Option, Some, None, IfSome, Result, Ok, Err, OnOk, List, [], ◌∷◌, ◌++◌, length, take, drop, map, refl, sym, ap, subst, arith}
use Rattle.std.specs.Prelude.{slice_index, bit_and, bit_or}
use Rattle.std.specs.Result.{IfErr}
use Rattle.std.specs.Int.{to_be_bytes, w128}
use Rattle.std.proofs.lemmas.Cmp.{nat_list_eq_equiv}
use Rattle.std.proofs.lemmas.Grind.{and_numeral, or_numeral}
use Rattle.std.proofs.lemmas.List.{append-nil, append_assoc, drop_at}
use Rattle.uuid.specs.Parts.{zero_bytes}
use Rattle.tw_protocol.specs.Chain.{Version, IsUuid, Grows, same_id, has_id, latest}
use Rattle.tw_protocol.specs.Answer.{answer}
use Rattle.tw_protocol.specs.Answer.Ask.{Add as Ask_add}
use Rattle.tw_protocol.specs.Snapshots.{Snapshot as Stored_snapshot, Account, Reply, Stored, Refused, is_welcome}
use Rattle.tw_http.specs.declared.link.LinkError.{LinkError}
use Rattle.tw_http.specs.declared.message.Request.{Request}
use Rattle.tw_http.specs.declared.message.Request.TheVariants.{Add, Child, AddSnapshot, Snapshot}
use Rattle.tw_http.specs.Link.{OthersAdd, Serves, IsAnswered}
use Rattle.tw_http.specs.Messages.{max_body, response_text}
use Rattle.tw_http.specs.Serving.{client_of, account_after}
use Rattle.tw_records.specs.Log.{Accepted, Log, chain_of, stored_from, account_of, accepted_for}
use Rattle.tw_server.specs.Log.{response_at}
use Rattle.tw_server.specs.Server.{drawn_id}
use Rattle.tw_server.specs.declared.memory.server.MemoryVersion.{MemoryVersion}
use Rattle.tw_server.specs.declared.memory.link.MemoryLink.{MemoryLink}
use Rattle.tw_server.specs.Memory.Holding.{Holding, accepted_of, snapshot_of, log_in, stored_as, own_of, added_by, after_request, after_other, after_others, AfterSome, Acts, IsReply, MayAct}
use Rattle.tw_server.specs.Memory.Server.{holding_of}
use Rattle.tw_server.specs.Memory.Link.{memory_link_model, link_chain, link_own, before_request}
use Rattle.tw_server.specs.Memory.Script.{others_at}
use Rattle.tw_protocol.proofs.Chains.{same_id_exact}
use Rattle.tw_server.proofs.Adds.{drawn_uuid, drawn_real}
use Rattle.tw_server.proofs.Accounts.{has_more}
use Rattle.tw_server.proofs.LogLaws.{other_accounts_stay, own_account_is_answered}
use Rattle.tw_server.proofs.MemoryVersions.{log_in-after, stored_one_fits}

-- ---- each id that is drawn is a uuid

seventh_of : (b : ℕ) → bit_or (bit_and b 15) 64 / 16 ≡ 4
seventh_of b =
    let a : bit_and b 15 ≡ b % 16 = and_numeral b 14 refl in
    let low : b % 16 < 64 = omega arith in
    let o : bit_or (b % 16) 64 ≡ 64 + b % 16 = or_numeral (b % 16) 63 refl low in
    let whole : bit_or (bit_and b 15) 64 ≡ 64 + b % 16 = ap (λ x. bit_or x 64) a ∙ o in
    ap (λ x. x / 16) whole ∙ omega arith

ninth_of : (b : ℕ) → bit_or (bit_and b 63) 128 / 64 ≡ 2
ninth_of b =
    let a : bit_and b 63 ≡ b % 64 = and_numeral b 62 refl in
    let low : b % 64 < 128 = omega arith in
    let o : bit_or (b % 64) 128 ≡ 128 + b % 64 = or_numeral (b % 64) 127 refl low in
    let whole : bit_or (bit_and b 63) 128 ≡ 128 + b % 64 = ap (λ x. bit_or x 128) a ∙ o in
    ap (λ x. x / 64) whole ∙ omega arith

id_uuid : (start : ℕ) → IsUuid (drawn_id start)
id_uuid start = drawn_uuid start (seventh_of (slice_index (to_be_bytes w128 start) 6)) (ninth_of (slice_index (to_be_bytes w128 start) 8))

id_real : (start : ℕ) → same_id (drawn_id start) zero_bytes ≡ false
id_real start = drawn_real start (seventh_of (slice_index (to_be_bytes w128 start) 6))

-- ---- the versions of the link's own exchanges

own_if : (t : Bool) (v : Version) (xs ys : List Version) → (if t then v ∷ (xs ++ ys) else (xs ++ ys)) ≡ (if t then v ∷ xs else xs) ++ ys
own_if true v xs ys = refl
own_if false v xs ys = refl

pub own_append : (client : List ℕ) (xs ys : List MemoryVersion) → own_of client (xs ++ ys) ≡ own_of client xs ++ own_of client ys
own_append client [] ys = refl
own_append client (v ∷ xs) ys =
    ap (λ vs. if same_id v.client client && v.own then (accepted_of v).version ∷ vs else vs) (own_append client xs ys) ∙ own_if (same_id v.client client && v.own) (accepted_of v).version (own_of client xs) (own_of client ys)

and_false : (t : Bool) → t && false ≡ false
and_false true = refl
and_false false = refl

own_of_others : (client : List ℕ) (more : List Accepted) → own_of client (map (stored_as false) more) ≡ []
own_of_others client [] = refl
own_of_others client (a ∷ more) = ap (λ t. if t then a.version ∷ own_of client (map (stored_as false) more) else own_of client (map (stored_as false) more)) (and_false (same_id a.client client)) ∙ own_of_others client more

nothing_if : (t : Bool) → ◌≡◌ {A = List Version} [] (if t then [] else [])
nothing_if true = refl
nothing_if false = refl

one_if : (t : Bool) (v : Version) (own vs : List Version) → own ≡ (if t then vs else []) → (if t && true then v ∷ own else own) ≡ (if t then v ∷ vs else [])
one_if true v own vs e = ap (λ xs. v ∷ xs) e
one_if false v own vs e = e

-- of versions that the link added for one client, another one has none
own_of_added : (client other : List ℕ) (vs : List Version) (t : Bool) → same_id other client ≡ t → own_of client (map (stored_as true) (map (accepted_for other) vs)) ≡ (if t then vs else [])
own_of_added client other [] t e = nothing_if t
own_of_added client other (v ∷ vs) t e =
    let own = own_of client (map (stored_as true) (map (accepted_for other) vs)) in
    ap (λ u. if u && true then v ∷ own else own) e ∙ one_if t v own vs (own_of_added client other vs t e)

-- ---- a request at what the server holds

abbrev pub chain_in : List ℕ → Holding → List Version
chain_in client h = chain_of client (log_in h).versions

abbrev pub own_in : List ℕ → Holding → List Version
own_in client h = own_of client h.versions

abbrev account_in : List ℕ → Holding → Account
account_in client h = account_of client (log_in h)

chain_after : (h : Holding) (asked : Request) (own : Bool) → chain_in (client_of asked) (after_request h asked own) ≡ (account_after (account_in (client_of asked) h) asked (drawn_id h.start)).chain
chain_after h asked own =
    ap (λ (l : Log). chain_of (client_of asked) l.versions) (log_in-after h asked own) ∙ ap (λ (a : Account). a.chain) (own_account_is_answered (log_in h) asked (drawn_id h.start))

-- a request adds versions of its client alone
abbrev versions_of : Holding → Request → List Version
versions_of h (Add client parent segment) = (answer (chain_in client h) (Ask_add parent segment) (drawn_id h.start)).0
versions_of h (Child client parent) = []
versions_of h (AddSnapshot client v bytes) = []
versions_of h (Snapshot client) = []

added_is : (h : Holding) (asked : Request) → added_by h asked ≡ map (accepted_for (client_of asked)) (versions_of h asked)
added_is h (Add client parent segment) = refl
added_is h (Child client parent) = refl
added_is h (AddSnapshot client v bytes) = refl
added_is h (Snapshot client) = refl

nothing_behind : (xs : List Version) → ◌≡◌ {A = List Version} [] (drop (length xs) xs)
nothing_behind xs = sym (ap (drop (length xs)) (sym (append-nil xs)) ∙ drop_at xs [] (length xs) refl)

same_chain : (t : Bool) (a : Account) (o : Option Stored_snapshot)
    → ◌≡◌ {A = List Version} [] (drop (length a.chain) (cond {A = Account × Reply} t (record { chain = a.chain; stored = o }, Stored) (a, Refused)).0.chain)
same_chain true a o = nothing_behind a.chain
same_chain false a o = nothing_behind a.chain

-- they are what the chain has more
behind_is : (h : Holding) (asked : Request) → versions_of h asked ≡ drop (length (chain_in (client_of asked) h)) (account_after (account_in (client_of asked) h) asked (drawn_id h.start)).chain
behind_is h (Add client parent segment) = sym (drop_at (chain_in client h) (answer (chain_in client h) (Ask_add parent segment) (drawn_id h.start)).0 (length (chain_in client h)) refl)
behind_is h (Child client parent) = sym (drop_at (chain_in client h) [] (length (chain_in client h)) refl)
behind_is h (AddSnapshot client v bytes) = same_chain (is_welcome (account_in client h) v) (account_in client h) (Some (record { version = v; bytes = bytes }))
behind_is h (Snapshot client) = nothing_behind (chain_in client h)

grows_by : (old new more : List Version) → new ≡ old ++ more → Grows old new
grows_by old new more e = record { more = more; joined = e }

grows_none : (old new : List Version) → new ≡ old → Grows old new
grows_none old new e = grows_by old new [] (e ∙ sym (append-nil old))

join_others : (a b c p q r : List Version) → OthersAdd a b p q → OthersAdd b c q r → OthersAdd a c p r
join_others a b c p q r first second = record {
  grows = record { more = first.grows.more ++ second.grows.more; joined = second.grows.joined ∙ ap (λ vs. vs ++ second.grows.more) first.grows.joined ∙ append_assoc a first.grows.more second.grows.more };
  mine = second.mine ∙ first.mine;
}

other_adds : (client : List ℕ) (h : Holding) (s : List ℕ) → OthersAdd (chain_in client h) (chain_in client (after_other client h s)) (own_in client h) (own_in client (after_other client h s))
other_adds client h s =
    let asked = Add client (latest (chain_in client h)) s in
    record {
      grows = grows_by _ _ (versions_of h asked) (chain_after h asked false);
      mine = own_append client h.versions (map (stored_as false) (added_by h asked)) ∙ ap (λ vs. own_in client h ++ vs) (own_of_others client (added_by h asked)) ∙ append-nil (own_in client h);
    }

pub others_add : (client : List ℕ) (h : Holding) (segments : List (List ℕ)) → OthersAdd (chain_in client h) (chain_in client (after_others client h segments)) (own_in client h) (own_in client (after_others client h segments))
others_add client h [] = record { grows = grows_none _ _ refl; mine = refl }
others_add client h (s ∷ segments) = join_others _ _ _ _ _ _ (other_adds client h s) (others_add client (after_other client h s) segments)

-- ---- the stored snapshot

-- the client's stored snapshot is of a version of its chain, and fits a body
abbrev pub IsSoundAt : List ℕ → Holding → Type 0
IsSoundAt client h = IfSome (account_in client h).stored (λ s. (has_id s.version (chain_in client h) ≡ true) × (length s.bytes ≤ max_body))

sound_more : (o : Option Stored_snapshot) (xs ys : List Version) → Grows xs ys → IfSome o (λ s. (has_id s.version xs ≡ true) × (length s.bytes ≤ max_body)) → IfSome o (λ s. (has_id s.version ys ≡ true) × (length s.bytes ≤ max_body))
sound_more None xs ys grows h = h
sound_more (Some s) xs ys grows h = (ap (has_id s.version) grows.joined ∙ has_more s.version xs grows.more h.0, h.1)

sound_other : (client : List ℕ) (h : Holding) (s : List ℕ) → IsSoundAt client h → IsSoundAt client (after_other client h s)
sound_other client h s sound =
    let now = after_other client h s in
    subst (λ ts. IfSome (stored_from client None (map snapshot_of ts)) (λ t. (has_id t.version (chain_in client now) ≡ true) × (length t.bytes ≤ max_body))) (sym (append-nil h.snapshots))
    (sound_more (account_in client h).stored (chain_in client h) (chain_in client now) (other_adds client h s).grows sound)

pub sound_others : (client : List ℕ) (h : Holding) (segments : List (List ℕ)) → IsSoundAt client h → IsSoundAt client (after_others client h segments)
sound_others client h [] sound = sound
sound_others client h (s ∷ segments) sound = sound_others client (after_other client h s) segments (sound_other client h s sound)

sound_by : (o : Option Stored_snapshot) (chain : List Version) → IfSome o (λ s. has_id s.version chain ≡ true) → IfSome o (λ s. length s.bytes ≤ max_body) → IfSome o (λ s. (has_id s.version chain ≡ true) × (length s.bytes ≤ max_body))
sound_by None chain there fits = tt
sound_by (Some s) chain there fits = (there, fits)

pub server_sound : (l : MemoryLink) → IsSoundAt l.client (holding_of l.server)
server_sound l =
    sound_by (account_in l.client (holding_of l.server)).stored (chain_in l.client (holding_of l.server)) (l.server.accounts l.client).stored
    (stored_one_fits l.client None l.server.snapshots.items tt l.server.stored_fit)

-- ---- the link's own request

own_added : (client : List ℕ) (h : Holding) (asked : Request) (t : Bool) → same_id (client_of asked) client ≡ t → own_of client (map (stored_as true) (added_by h asked)) ≡ (if t then versions_of h asked else [])
own_added client h asked t e = ap (λ more. own_of client (map (stored_as true) more)) (added_is h asked) ∙ own_of_added client (client_of asked) (versions_of h asked) t e

-- it is served
serves_own : (chain own : List Version) (h : Holding) (asked : Request) → IsSoundAt (client_of asked) h → OthersAdd chain (chain_in (client_of asked) h) own (own_in (client_of asked) h)
    → Serves chain (chain_in (client_of asked) (after_request h asked true)) own (own_in (client_of asked) (after_request h asked true)) asked (response_text (response_at (log_in h) asked (drawn_id h.start)))
serves_own chain own h asked sound others =
    let client = client_of asked in
    record {
      at = account_in client h;
      stored = sound;
      id = drawn_id h.start;
      uuid = id_uuid h.start;
      real = id_real h.start;
      before = others.grows;
      after = grows_none _ _ (chain_after h asked true);
      mine = own_append client h.versions (map (stored_as true) (added_by h asked))
          ∙ ap (λ vs. own_in client h ++ vs) (own_added client h asked true (nat_list_eq_equiv.refl client) ∙ behind_is h asked)
          ∙ ap (λ vs. vs ++ drop (length (chain_in client h)) (account_after (account_in client h) asked (drawn_id h.start)).chain) others.mine;
      says = refl;
    }

pub serves : (client : List ℕ) (chain own : List Version) (h : Holding) (asked : Request) → client ≡ client_of asked → IsSoundAt client h → OthersAdd chain (chain_in client h) own (own_in client h)
    → Serves chain (chain_in client (after_request h asked true)) own (own_in client (after_request h asked true)) asked (response_text (response_at (log_in h) asked (drawn_id h.start)))
serves client chain own h asked of_client =
    subst (λ k. IsSoundAt k h → OthersAdd chain (chain_in k h) own (own_in k h) → Serves chain (chain_in k (after_request h asked true)) own (own_in k (after_request h asked true)) asked (response_text (response_at (log_in h) asked (drawn_id h.start)))) (sym of_client) (serves_own chain own h asked)

differs : (client other : List ℕ) (t : Bool) → same_id other client ≡ t → ¬ (client ≡ other) → same_id other client ≡ false
differs client other true e not = absurd (not (sym (same_id_exact other client e)))
differs client other false e not = e

-- a request of another client leaves the chain
pub serves_another : (client : List ℕ) (h : Holding) (asked : Request) → ¬ (client ≡ client_of asked) → OthersAdd (chain_in client h) (chain_in client (after_request h asked true)) (own_in client h) (own_in client (after_request h asked true))
serves_another client h asked not =
    record {
      grows = grows_none _ _ (ap (λ (l : Log). chain_of client l.versions) (log_in-after h asked true) ∙ ap (λ (a : Account). a.chain) (other_accounts_stay (log_in h) asked (drawn_id h.start) client not));
      mine = own_append client h.versions (map (stored_as true) (added_by h asked))
          ∙ ap (λ vs. own_in client h ++ vs) (own_added client h asked false (differs client (client_of asked) (same_id (client_of asked) client) refl not)) ∙ append-nil (own_in client h);
    }

-- ---- an exchange

module _ (old new : MemoryLink) (same : new.client ≡ old.client) (request reply : List ℕ) where
  abbrev pub Others : Holding → Type 0
  Others h = OthersAdd (link_chain old) (chain_in old.client h) (link_own old) (own_in old.client h)

  to_new : Others (holding_of new.server) → OthersAdd (link_chain old) (link_chain new) (link_own old) (link_own new)
  to_new others = subst (λ k. OthersAdd (link_chain old) (chain_in k (holding_of new.server)) (link_own old) (own_in k (holding_of new.server))) (sym same) others

  others_before : Others (before_request old)
  others_before = others_add old.client (holding_of old.server) (others_at old.script.items old.exchanges)

  sound_before : IsSoundAt old.client (before_request old)
  sound_before = sound_others old.client (holding_of old.server) (others_at old.script.items old.exchanges) (server_sound old)

  moved : (h k : Holding) → k ≡ h → Others h → Others k
  moved h k e others = subst Others (sym e) others

  -- others added, and nothing acted
  pub only_others : (e : LinkError) → Others (holding_of new.server) → IsAnswered memory_link_model old new request reply (Err e)
  only_others e others = record {
    served = λ asked honest is. inl (to_new others);
    elsewhere = λ asked truly not is. to_new others;
    refused = λ error truly is. (to_new others, tt);
  }

  pub some_others : (e : LinkError) → AfterSome old.client (holding_of old.server) (holding_of new.server) (others_at old.script.items old.exchanges) → IsAnswered memory_link_model old new request reply (Err e)
  some_others e some = only_others e (moved _ _ some.1 (others_add old.client (holding_of old.server) (take some.0 (others_at old.script.items old.exchanges))))

  pub all_others : (e : LinkError) → holding_of new.server ≡ before_request old → IsAnswered memory_link_model old new request reply (Err e)
  all_others e is = only_others e (moved _ _ is others_before)

  served_new : (asked : Request) (text : List ℕ) → old.client ≡ client_of asked → holding_of new.server ≡ after_request (before_request old) asked true → text ≡ response_text (response_at (log_in (before_request old)) asked (drawn_id (before_request old).start))
      → Serves (link_chain old) (link_chain new) (link_own old) (link_own new) asked text
  served_new asked text of_client acted says =
      subst (λ t. Serves (link_chain old) (link_chain new) (link_own old) (link_own new) asked t) (sym says)
      (subst (λ k. Serves (link_chain old) (chain_in k (holding_of new.server)) (link_own old) (own_in k (holding_of new.server)) asked (response_text (response_at (log_in (before_request old)) asked (drawn_id (before_request old).start)))) (sym same)
      (subst (λ h. Serves (link_chain old) (chain_in old.client h) (link_own old) (own_in old.client h) asked (response_text (response_at (log_in (before_request old)) asked (drawn_id (before_request old).start)))) (sym acted)
      (serves old.client (link_chain old) (link_own old) (before_request old) asked of_client sound_before others_before)))

  elsewhere_new : (asked : Request) → ¬ (old.client ≡ client_of asked) → holding_of new.server ≡ after_request (before_request old) asked true → OthersAdd (link_chain old) (link_chain new) (link_own old) (link_own new)
  elsewhere_new asked not acted = to_new (moved _ _ acted (join_others _ _ _ _ _ _ others_before (serves_another old.client (before_request old) asked not)))

  -- the request acted, and no reply came
  pub acted_unheard : (e : LinkError) → Acts (before_request old) (holding_of new.server) request → IsAnswered memory_link_model old new request reply (Err e)
  acted_unheard e acts = record {
    served = λ asked honest is. inr (_, served_new asked _ honest.of_client (acts.asked asked is) refl);
    elsewhere = λ asked truly not is. elsewhere_new asked not (acts.asked asked is);
    refused = λ error truly is. (to_new (moved _ _ (acts.none error is) others_before), tt);
  }

  pub may_have_acted : (e : LinkError) → MayAct (before_request old) (holding_of new.server) request → IsAnswered memory_link_model old new request reply (Err e)
  may_have_acted e (inl is) = all_others e is
  may_have_acted e (inr acts) = acted_unheard e acts

  -- the reply came
  pub heard : Acts (before_request old) (holding_of new.server) request → IsReply (before_request old) request reply → IsAnswered memory_link_model old new request reply (Ok tt)
  heard acts text = record {
    served = λ asked honest is. served_new asked reply honest.of_client (acts.asked asked is) (text.asked asked is);
    elsewhere = λ asked truly not is. elsewhere_new asked not (acts.asked asked is);
    refused = λ error truly is. (to_new (moved _ _ (acts.none error is) others_before), text.none error is);
  }

  pub delivered : (r : Result (Unit {0}) LinkError) (P : LinkError → Type 0) → OnOk r (Acts (before_request old) (holding_of new.server) request) → OnOk r (IsReply (before_request old) request reply)
      → IfErr r (λ e. P e × MayAct (before_request old) (holding_of new.server) request) → IsAnswered memory_link_model old new request reply r
  delivered (Ok u) P acts text may = heard acts text
  delivered (Err e) P acts text may = may_have_acted e may.1
