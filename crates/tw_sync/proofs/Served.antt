-- What a server's reply is read as, and what it says of the chain.
use Rattle.std.proofs.Common.{◌≡◌, ℕ, ◌≤◌, inl, inr, Bool, true, false, ◌||◌, List, [], ◌∷◌, ◌++◌, length, Option, Some, None, IfSome, Result, Ok, All, refl, sym, ap, subst, ◌∙◌, append_assoc, arith}
use Rattle.std.proofs.lemmas.List.{append-nil, get_or_append_left, length-append, drop_at}
use Rattle.uuid.specs.Parts.{zero_bytes}
use Rattle.tw_protocol.specs.Chain.{Version, IsUuid, IsChain, IsRow, Differ, Grows, has_id, same_id}
use Rattle.tw_protocol.specs.Answer.{answer}
use Rattle.tw_protocol.specs.Answer.Ask.{Add}
use Rattle.tw_protocol.specs.Snapshots.{Snapshot, IsAccount}
use Rattle.tw_protocol.proofs.Responses.{response_grows}
use Rattle.tw_http.specs.declared.message.Request.{Request}
use Rattle.tw_http.specs.declared.message.Request.TheVariants as asks
use Rattle.tw_http.specs.declared.message.Response.{Response}
use Rattle.tw_http.specs.declared.message.HttpError.{HttpError}
use Rattle.tw_http.specs.Link.{Serves, MayServe, IsServedChain}
use Rattle.tw_http.specs.Messages.{max_body, response_text}
use Rattle.tw_http.specs.Responses.{IsResponseAnswer}
use Rattle.tw_http.specs.Serving.{kind_of, demand_of, account_after, response_to, SegmentsFit, AccountFits}
use Rattle.tw_http.proofs.OneAnswer.{one_response}
use Rattle.tw_http.proofs.Serving.{served_is_read}

-- ---- what a chain begins with is a chain

or_false_left : (b c : Bool) → b || c ≡ false → b ≡ false
or_false_left true c e = cc
or_false_left false c e = refl

or_false_right : (b c : Bool) → b || c ≡ false → c ≡ false
or_false_right true c e = cc
or_false_right false c e = e

or_none : (b c : Bool) → b ≡ false → c ≡ false → b || c ≡ false
or_none true c e f = e
or_none false c e f = f

row_front : (h : List ℕ) (xs ys : List Version) → IsRow h (xs ++ ys) → IsRow h xs
row_front h [] ys r = tt
row_front h (x ∷ xs) ys r = (r.0, row_front x.id xs ys r.1)

none_front : (id : List ℕ) (xs ys : List Version) → has_id id (xs ++ ys) ≡ false → has_id id xs ≡ false
none_front id [] ys e = refl
none_front id (x ∷ xs) ys e = or_none (same_id x.id id) (has_id id xs) (or_false_left (same_id x.id id) (has_id id (xs ++ ys)) e) (none_front id xs ys (or_false_right (same_id x.id id) (has_id id (xs ++ ys)) e))

differ_front : (h : List ℕ) (xs ys : List Version) → Differ h (xs ++ ys) → Differ h xs
differ_front h [] ys d = tt
differ_front h (x ∷ xs) ys d = (none_front h (x ∷ xs) ys d.0, differ_front x.id xs ys d.1)

all_front : {A : Type 0} (P : A → Type 0) (xs ys : List A) → All P (xs ++ ys) → All P xs
all_front P xs ys all k d in_front = subst P (get_or_append_left xs ys d k in_front) (all k d (omega (arith, in_front, length-append xs ys)))

pub chain_front : (at chain : List Version) → Grows at chain → IsChain chain → IsChain at
chain_front at chain g whole =
    let there : IsChain (at ++ g.more) = subst IsChain g.joined whole in
    record { row = row_front zero_bytes at g.more there.row; differ = differ_front zero_bytes at g.more there.differ; uuids = all_front (λ (v : Version). IsUuid v.id) at g.more there.uuids }

pub served_front : (at chain : List Version) → Grows at chain → IsServedChain chain → IsServedChain at
served_front at chain g served =
    record { whole = chain_front at chain g served.whole; fit = all_front (λ (v : Version). length v.segment ≤ max_body) at g.more (subst SegmentsFit g.joined served.fit) }

-- ---- growing

pub grows_same : (a : List Version) → Grows a a
grows_same a = record { more = []; joined = sym (append-nil a) }

pub grows_on : (a b c : List Version) → Grows a b → Grows b c → Grows a c
grows_on a b c f g = record { more = f.more ++ g.more; joined = g.joined ∙ ap (λ x. x ++ g.more) f.joined ∙ append_assoc a f.more g.more }

pub grows_past : (a more chain : List Version) → Grows (a ++ more) chain → Grows a chain
grows_past a more chain g = grows_on a (a ++ more) chain (record { more = more; joined = refl }) g

-- the chain at which a request was answered has grown into the new one
pub serves_after : (old new own own_now : List Version) (request : Request) (reply : List ℕ) (s : Serves old new own own_now request reply) → Grows s.at.chain new
serves_after old new own own_now request reply s = grows_on s.at.chain (account_after s.at request s.id).chain new (response_grows s.at (demand_of request) s.id) s.after

pub serves_grows : (old new own own_now : List Version) (request : Request) (reply : List ℕ) → Serves old new own own_now request reply → Grows old new
serves_grows old new own own_now request reply s = grows_on old s.at.chain new s.before (serves_after old new own own_now request reply s)

pub may_serve_grows : (old new own own_now : List Version) (request : Request) → MayServe old new own own_now request → Grows old new
may_serve_grows old new own own_now request (inl others) = others.grows
may_serve_grows old new own own_now request (inr (reply, s)) = serves_grows old new own own_now request reply s

-- ---- what a reply is read as

pub served_at : (old new own own_now : List Version) (request : Request) (reply : List ℕ) (s : Serves old new own own_now request reply) → IsServedChain new → IsServedChain s.at.chain
served_at old new own own_now request reply s served = served_front s.at.chain new (serves_after old new own own_now request reply s) served

stored_there : (o : Option Snapshot) (chain : List Version) → IfSome o (λ s. (has_id s.version chain ≡ true) × (length s.bytes ≤ max_body)) → IfSome o (λ s. has_id s.version chain ≡ true)
stored_there None chain h = tt
stored_there (Some s) chain h = h.0

stored_fits : (o : Option Snapshot) (chain : List Version) → IfSome o (λ s. (has_id s.version chain ≡ true) × (length s.bytes ≤ max_body)) → IfSome o (λ s. length s.bytes ≤ max_body)
stored_fits None chain h = tt
stored_fits (Some s) chain h = h.1

-- a server's reply is read as what it says
pub reply_is : (old new own own_now : List Version) (request : Request) (reply : List ℕ) (s : Serves old new own own_now request reply) → IsServedChain new → (r : Result Response HttpError) → IsResponseAnswer (kind_of request) reply r
    → r ≡ Ok (response_to s.at request s.id)
reply_is old new own own_now request reply s served r read =
    let says : Response = response_to s.at request s.id in
    let at : IsServedChain s.at.chain = served_at old new own own_now request reply s served in
    let account : IsAccount s.at = record { chain = at.whole; stored = stored_there s.at.stored s.at.chain s.stored } in
    let fits : AccountFits s.at = record { segments = at.fit; stored = stored_fits s.at.stored s.at.chain s.stored } in
    let here : IsResponseAnswer (kind_of request) reply (Ok says) =
    subst (λ b. IsResponseAnswer (kind_of request) b (Ok says)) (append-nil (response_text says) ∙ sym s.says) (served_is_read s.at request s.id [] account fits s.uuid) in
    one_response (kind_of request) reply r (Ok says) read here

-- ---- what a request adds

pub add_mine : (old new own own_now : List Version) (client parent segment reply : List ℕ) (s : Serves old new own own_now (asks.Add client parent segment) reply) → own_now ≡ own ++ (answer s.at.chain (Add parent segment) s.id).0
add_mine old new own own_now client parent segment reply s = s.mine ∙ ap (λ vs. own ++ vs) (drop_at s.at.chain (answer s.at.chain (Add parent segment) s.id).0 (length s.at.chain) refl)

pub child_mine : (old new own own_now : List Version) (client parent reply : List ℕ) (s : Serves old new own own_now (asks.Child client parent) reply) → own_now ≡ own
child_mine old new own own_now client parent reply s = s.mine ∙ ap (λ vs. own ++ vs) (drop_at s.at.chain [] (length s.at.chain) refl) ∙ append-nil own
