-- What an exchange of a written request does to a link.
use Rattle.std.proofs.Common.{◌≡◌, ℕ, ◌≤◌, inl, List, [], ◌++◌, length, Ok, refl, sym, subst}
use Rattle.std.proofs.lemmas.List.{append-nil}
use Rattle.tw_protocol.specs.Chain.{Version}
use Rattle.tw_http.specs.Link.{MayServe}
use Rattle.tw_http.specs.Messages.{request_body, max_body}
use Rattle.tw_http.specs.Requests.{IsRequestAnswer}
use Rattle.tw_http.specs.declared.message.Request.{Request}

-- the bytes that are sent are read as the request
pub sent_is_read : (text sent : List ℕ) (request : Request) → sent ≡ text → ((more : List ℕ) → length (request_body request) ≤ max_body → IsRequestAnswer (text ++ more) (Ok request)) → length (request_body request) ≤ max_body → IsRequestAnswer sent (Ok request)
sent_is_read text sent request same back few = subst (λ b. IsRequestAnswer b (Ok request)) (sym same) (subst (λ b. IsRequestAnswer b (Ok request)) (append-nil text) (back [] few))

-- no exchange is begun
pub nothing_served : (chain own : List Version) (request : Request) → MayServe chain chain own own request
nothing_served chain own request = inl (record { grows = record { more = []; joined = sym (append-nil chain) }; mine = refl })
