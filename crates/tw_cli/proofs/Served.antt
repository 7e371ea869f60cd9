-- An exchange of a server is an event of a world.
use Rattle.std.proofs.Common.{◌≡◌, ◌∙◌, ◌⊎◌, ap, sym, subst, inl, inr, refl, ℕ, ◌≤◌, List, length, Ok}
use Rattle.tw_world.specs.Disk.{DiskModel}
use Rattle.tw_world.specs.Peer.{PeerModel}
use Rattle.tw_world.proofs.Moments.{weaker}
use Rattle.tw_protocol.specs.Chain.{Version}
use Rattle.tw_protocol.specs.Snapshots.{Account}
use Rattle.tw_http.specs.Messages.{max_body, request_body}
use Rattle.tw_http.specs.Serving.{client_of, account_after}
use Rattle.tw_http.specs.declared.message.Request.{Request}
use Rattle.tw_http.proofs.RequestFits.{asked_fits}
use Rattle.tw_records.specs.Log.{Log, chain_of, account_of}
use Rattle.tw_server.specs.Laws.{DrawnIsReal}
use Rattle.tw_server.specs.Log.{log_after}
use Rattle.tw_server.specs.Server.{HoldsLog, IsServerOn, drawn_id, LogOrAfter}
use Rattle.tw_server.specs.Serve.{IsAsked, IsStep}
use Rattle.tw_server.specs.declared.server.Server.{Server}
use Rattle.tw_server.specs.Message.{IsMessage}
use Rattle.tw_server.proofs.LogLaws.{own_account_is_answered}
use Rattle.tw_sync.specs.Theorem.{World}
use Rattle.tw_cli.specs.Served.{HasEither, HoldsEither, IsAnswerIn, IsEvent, KeepsLog, ServedIsEvent}

-- a request that was read has a body within its limit
asked_within : {bytes : List ℕ} (request : Request) → IsMessage bytes (Ok request) → length (request_body request) ≤ max_body
asked_within request message = asked_fits _ request message.read

module _ {D P : Type 0} (m : DiskModel D) (p : PeerModel P) (start : ℕ) (real : DrawnIsReal start) where
  module _ (old new : Server) (d0 d1 : D) (peer : P) (log : Log) (taken : IsStep m old new d0 d1 log (IsAsked p peer) (drawn_id start)) where
    -- nothing was changed
    kept : taken.next ≡ log → KeepsLog m new d0 d1 log
    kept same = record { moments = weaker m d0 d1 (LogOrAfter log taken.next) (HoldsLog log) taken.moments left; stands = λ live. stood (taken.stands live) }
      where
        left : (file : List ℕ) → LogOrAfter log taken.next file → HoldsLog log file
        left file (inl was) = was
        left file (inr is) = subst (λ (k : Log). HoldsLog k file) same is

        stood : IsServerOn m new d1 log ⊎ IsServerOn m new d1 taken.next → IsServerOn m new d1 log
        stood (inl was) = was
        stood (inr is) = subst (IsServerOn m new d1) same is

    -- a request was answered
    answered : (request : Request) → taken.next ≡ log_after log request (drawn_id start) → length (request_body request) ≤ max_body → (world : World)
        → world.chain ≡ chain_of (client_of request) log.versions → IsAnswerIn m new d0 d1 request (drawn_id start) world
    answered request is fits world chain = record {
      after = after;
      event = record { uuid = real.0; real = real.1; fits = fits; stored = (account_of (client_of request) log).stored; chain = refl; machines = refl };
      moments = weaker m d0 d1 (LogOrAfter log taken.next) (HoldsEither (client_of request) world.chain after.chain) taken.moments left;
      stands = λ live. stood (taken.stands live);
    }
      where
        after : World
        after = record {
          chain = (account_after (record { chain = world.chain; stored = (account_of (client_of request) log).stored }) request (drawn_id start)).chain;
          machines = world.machines;
        }

        here : HasEither (client_of request) world.chain after.chain log
        here = inl (sym chain)

        now : HasEither (client_of request) world.chain after.chain taken.next
        now = inr (ap (λ (k : Log). chain_of (client_of request) k.versions) is ∙ ap (λ (a : Account). a.chain) (own_account_is_answered log request (drawn_id start))
            ∙ ap (λ (c : List Version). (account_after (record { chain = c; stored = (account_of (client_of request) log).stored }) request (drawn_id start)).chain) (sym chain))

        left : (file : List ℕ) → LogOrAfter log taken.next file → HoldsEither (client_of request) world.chain after.chain file
        left file (inl was) = (log, was, here)
        left file (inr next) = (taken.next, next, now)

        stood : IsServerOn m new d1 log ⊎ IsServerOn m new d1 taken.next → (k : Log) × IsServerOn m new d1 k × HasEither (client_of request) world.chain after.chain k
        stood (inl was) = (log, was, here)
        stood (inr next) = (taken.next, next, now)

    by_request : (taken.next ≡ log) ⊎ ((request : Request) × IsAsked p peer request × (taken.next ≡ log_after log request (drawn_id start)))
        → KeepsLog m new d0 d1 log ⊎ IsEvent m new d0 d1 p peer log (drawn_id start)
    by_request (inl same) = inl (kept same)
    by_request (inr asked) = inr (record { request = asked.0; asked = asked.1; event = λ tells. answered asked.0 asked.2 (asked_within asked.0 (asked.1 tells)) })

  pub served_is_event : ServedIsEvent m p start
  served_is_event old new d0 d1 peer log on step = let taken = step log on in by_request old new d0 d1 peer log taken taken.by_request
