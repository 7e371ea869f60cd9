-- A chain to which nobody else adds.
use Rattle.std.proofs.Common.{◌≡◌, ◌∙◌, inl, inr, ℕ, zero, suc, ◌&&◌, Bool, true, false, if◌then◌else◌, Result, Ok, Err, OnOk, List, [], ◌∷◌, ◌++◌, length, take, map, refl, sym, ap, subst, arith}
use Rattle.std.specs.Result.{IfErr}
use Rattle.tw_protocol.specs.Chain.{Version, same_id}
use Rattle.tw_http.specs.declared.message.Request.{Request}
use Rattle.tw_http.specs.declared.message.HttpError.{HttpError}
use Rattle.tw_http.specs.declared.link.LinkError.{LinkError}
use Rattle.tw_http.specs.Requests.{IsRequestAnswer}
use Rattle.tw_records.specs.Log.{Accepted, chain_of}
use Rattle.tw_server.specs.declared.memory.link.MemoryLink.{MemoryLink}
use Rattle.tw_server.specs.Memory.Holding.{Holding, log_in, added_by, stored_as, own_of, after_request, after_others, AfterSome, Acts, MayAct}
use Rattle.tw_server.specs.Memory.Server.{holding_of}
use Rattle.tw_server.specs.Memory.Link.{IsAlone, KeepsScript, before_request}
use Rattle.tw_server.specs.Memory.Script.{others_at}
use Rattle.tw_records.proofs.Demands.{chain_of-append}
use Rattle.tw_server.proofs.MemoryVersions.{accepted-more}
use Rattle.tw_server.proofs.MemoryOthers.{no_step}
use Rattle.tw_server.proofs.MemoryExchange.{chain_in, own_in, own_append}

same_if : (t : Bool) (v : Version) (xs ys : List Version) → xs ≡ ys → (if t && true then v ∷ xs else xs) ≡ (if t then v ∷ ys else ys)
same_if true v xs ys e = ap (λ vs. v ∷ vs) e
same_if false v xs ys e = e

-- of versions that the link added all are own
own_all : (client : List ℕ) (more : List Accepted) → own_of client (map (stored_as true) more) ≡ chain_of client more
own_all client [] = refl
own_all client (a ∷ more) = same_if (same_id a.client client) a.version (own_of client (map (stored_as true) more)) (chain_of client more) (own_all client more)

abbrev pub IsOwn : List ℕ → Holding → Type 0
IsOwn client h = own_in client h ≡ chain_in client h

own_after : (client : List ℕ) (h : Holding) (asked : Request) → IsOwn client h → IsOwn client (after_request h asked true)
own_after client h asked e =
    let more = added_by h asked in
    own_append client h.versions (map (stored_as true) more)
    ∙ (λ n. e n ++ own_all client more n)
    ∙ sym (ap (chain_of client) (accepted-more true h.versions more) ∙ chain_of-append client (log_in h).versions more)

own_acted : (client : List ℕ) (old new : Holding) (request : List ℕ) → Acts old new request → IsOwn client old → IsOwn client new
own_acted client old new request acts own = by acts.read.0 acts.read.1
  where
    by : (answer : Result Request HttpError) → IsRequestAnswer request answer → IsOwn client new
    by (Ok asked) is = subst (IsOwn client) (sym (acts.asked asked is)) (own_after client old asked own)
    by (Err error) is = subst (IsOwn client) (sym (acts.none error is)) own

own_maybe : (client : List ℕ) (old new : Holding) (request : List ℕ) → MayAct old new request → IsOwn client old → IsOwn client new
own_maybe client old new request (inl same) own = subst (IsOwn client) (sym same) own
own_maybe client old new request (inr acts) own = own_acted client old new request acts own

none_added : (client : List ℕ) (h : Holding) (segments : List (List ℕ)) (k : ℕ) → segments ≡ [] → after_others client h (take k segments) ≡ h
none_added client h segments zero e = refl
none_added client h segments (suc k) e = ap (λ s. after_others client h (take (suc k) s)) e

-- ---- an exchange

module _ (old new : MemoryLink) (of_client : new.client ≡ old.client) (same : new.script.items ≡ old.script.items) where
  none_said : IsAlone old → others_at old.script.items old.exchanges ≡ []
  none_said alone = let none = alone.script in no_step old.script.items old.script.items old.exchanges refl (omega (arith, none))

  -- with no script the server held what it held when the request arrived
  none_before : IsAlone old → before_request old ≡ holding_of old.server
  none_before alone = ap (after_others old.client (holding_of old.server)) (none_said alone)

  own_before : IsAlone old → IsOwn old.client (before_request old)
  own_before alone = subst (IsOwn old.client) (sym (none_before alone)) alone.own

  keeps : (IsAlone old → IsOwn old.client (holding_of new.server)) → KeepsScript old new
  keeps own = record {
    same = same;
    alone = λ alone. record {
      script = ap length same ∙ alone.script;
      own = subst (λ k. IsOwn k (holding_of new.server)) (sym of_client) (own alone);
    };
  }

  pub keeps_some : AfterSome old.client (holding_of old.server) (holding_of new.server) (others_at old.script.items old.exchanges) → KeepsScript old new
  keeps_some some = keeps (λ alone. subst (IsOwn old.client) (sym (some.1 ∙ none_added old.client (holding_of old.server) (others_at old.script.items old.exchanges) some.0 (none_said alone))) alone.own)

  pub keeps_all : holding_of new.server ≡ before_request old → KeepsScript old new
  keeps_all is = keeps (λ alone. subst (IsOwn old.client) (sym is) (own_before alone))

  pub keeps_acted : (request : List ℕ) → Acts (before_request old) (holding_of new.server) request → KeepsScript old new
  keeps_acted request acts = keeps (λ alone. own_acted old.client (before_request old) (holding_of new.server) request acts (own_before alone))

  pub keeps_maybe : (request : List ℕ) → MayAct (before_request old) (holding_of new.server) request → KeepsScript old new
  keeps_maybe request may = keeps (λ alone. own_maybe old.client (before_request old) (holding_of new.server) request may (own_before alone))

  pub keeps_delivered : (request : List ℕ) (r : Result (Unit {0}) LinkError) (P : LinkError → Type 0) → OnOk r (Acts (before_request old) (holding_of new.server) request)
      → IfErr r (λ e. P e × MayAct (before_request old) (holding_of new.server) request) → KeepsScript old new
  keeps_delivered request (Ok u) P acts may = keeps_acted request acts
  keeps_delivered request (Err e) P acts may = keeps_maybe request may.1
