-- The accounts of the clients, after a request.
use Rattle.std.proofs.Common.{◌≡◌, ◌∙◌, inl, inr, ℕ, Bool, true, false, cond, List, [], ◌∷◌, ◌++◌, refl, sym, ap}
use Rattle.std.proofs.lemmas.List.{append-nil}
use Rattle.tw_protocol.specs.Chain.{Version, latest, has_id, Grows}
use Rattle.tw_protocol.specs.Answer.{Finding, version, accepts, answer, answered}
use Rattle.tw_protocol.specs.Answer.Ask.{Add as Ask_add}
use Rattle.tw_protocol.specs.Answer.Finding.{Added, Conflict, Found, UpToDate, Gone, Taken}
use Rattle.tw_protocol.specs.Snapshots.{Account, is_wanted}
use Rattle.tw_protocol.proofs.Chains.{same_id_exact}
use Rattle.tw_protocol.proofs.Telling.{repeat_conflicts}
use Rattle.tw_http.specs.declared.message.Request.TheVariants.{Add}
use Rattle.tw_http.specs.declared.message.Response.{Response}
use Rattle.tw_http.specs.declared.message.Response.TheVariants as responses
use Rattle.tw_http.specs.Serving.{client_of, demand_of, says}
use Rattle.tw_records.specs.Log.{Log, chain_of, account_of}
use Rattle.tw_records.proofs.Demands as demands
use Rattle.tw_server.specs.Log.{log_after}
use Rattle.tw_server.specs.Laws.{OtherAccountsStay, OwnAccountIsAnswered, AcceptedStandsLast, ParentIsAcceptedOnce, CrashLeavesAccount}

pub other_accounts_stay : OtherAccountsStay
other_accounts_stay log request id other not = demands.other_accounts_stay log (client_of request) (demand_of request) id other not

pub own_account_is_answered : OwnAccountIsAnswered
own_account_is_answered log request id = demands.own_account_is_answered log (client_of request) (demand_of request) id

-- the chain of the client that adds
pub own_chain : (log : Log) (client parent segment id : List ℕ) → chain_of client (log_after log (Add client parent segment) id).versions ≡ answered (chain_of client log.versions) (Ask_add parent segment) id
own_chain log client parent segment id = ap (λ (a : Account). a.chain) (own_account_is_answered log (Add client parent segment) id)

-- ---- an accepted version

was_added : (t : Finding) (w wanted : Bool) (id : List ℕ) → says t w ≡ responses.Added id wanted → t ≡ Added id
was_added (Added other) w wanted id e = let same : other ≡ id = cc in ap (λ x. Added x) same
was_added (Conflict other) w wanted id e = absurd (let no : ⊥ = cc in no)
was_added (Found v) w wanted id e = absurd (let no : ⊥ = cc in no)
was_added UpToDate w wanted id e = absurd (let no : ⊥ = cc in no)
was_added Gone w wanted id e = absurd (let no : ⊥ = cc in no)
was_added Taken w wanted id e = absurd (let no : ⊥ = cc in no)

-- if a version is added, the parent is the latest one
last_by : (t u : Bool) (chain : List Version) (parent segment id : List ℕ) → (cond {A = List Version × Finding} t (cond u ([], Taken) (version id parent segment ∷ [], Added id)) ([], Conflict (latest chain))).1 ≡ Added id
    → (t ≡ true) × ((cond {A = List Version × Finding} t (cond u ([], Taken) (version id parent segment ∷ [], Added id)) ([], Conflict (latest chain))).0 ≡ version id parent segment ∷ [])
last_by true true chain parent segment id e = absurd (let no : ⊥ = cc in no)
last_by true false chain parent segment id e = (refl, refl)
last_by false u chain parent segment id e = absurd (let no : ⊥ = cc in no)

module _ (log : Log) (client : List ℕ) where
  -- what is answered to an add-version
  abbrev pub told : List Version × Finding → Response
  told x = says x.1 (is_wanted (record { chain = chain_of client log.versions ++ x.0; stored = (account_of client log).stored }))

  abbrev pub wanted_after : (parent segment id : List ℕ) → Bool
  wanted_after parent segment id = is_wanted (record { chain = answered (chain_of client log.versions) (Ask_add parent segment) id; stored = (account_of client log).stored })

pub accepted_stands_last : AcceptedStandsLast
accepted_stands_last log client parent segment id wanted e =
    let chain = chain_of client log.versions in
    let was = was_added (answer chain (Ask_add parent segment) id).1 (wanted_after log client parent segment id) wanted id e in
    let one = last_by (accepts chain parent) (has_id id chain) chain parent segment id was in
    (sym (same_id_exact (latest chain) parent one.0), own_chain log client parent segment id ∙ ap (λ vs. chain ++ vs) one.1)

pub parent_is_accepted_once : ParentIsAcceptedOnce
parent_is_accepted_once log later more client parent segment id again drawn wanted e is sound =
    let chain = chain_of client log.versions in
    let after = log_after log (Add client parent segment) id in
    let now = chain_of client later.versions in
    let grown : Grows (answered chain (Ask_add parent segment) id) now = record {
      more = chain_of client more;
      joined = ap (chain_of client) is ∙ demands.chain_of-append client after.versions more ∙ ap (λ vs. vs ++ chain_of client more) (own_chain log client parent segment id);
    } in
    let was = was_added (answer chain (Ask_add parent segment) id).1 (wanted_after log client parent segment id) wanted id e in
    let refused = repeat_conflicts chain now parent segment id again drawn was grown (sound.chains client) in
    let same : answered now (Ask_add parent again) drawn ≡ now = ap (λ (x : List Version × Finding). now ++ x.0) refused ∙ append-nil now in (
      ap (told later client) refused,
      own_account_is_answered later (Add client parent again) drawn ∙ (λ i. record { chain = same i; stored = (account_of client later).stored }),
    )

pub crash_leaves_account : CrashLeavesAccount
crash_leaves_account log request id file (inl old) = record { held = log; holds = old; account = inl refl }
crash_leaves_account log request id file (inr answered) = record { held = log_after log request id; holds = answered; account = inr (own_account_is_answered log request id) }
