-- What is heard if a reply is none that a sync goes on from.
use Rattle.std.proofs.Common.{◌≡◌, ℕ, inr, List, [], ◌∷◌, ◌++◌, Result, refl}
use Rattle.tw_http.specs.Link.{LinkModel, Exchange}
use Rattle.tw_http.specs.Messages.{request_text}
use Rattle.tw_http.specs.Responses.{IsResponseAnswer}
use Rattle.tw_http.specs.Serving.{client_of, kind_of}
use Rattle.tw_http.specs.declared.message.Request.{Request}
use Rattle.tw_http.specs.declared.message.Response.{Response}
use Rattle.tw_http.specs.declared.message.HttpError.{HttpError}
use Rattle.tw_sync.specs.Replies.Heard.{Heard, heard, IsSent, Hears, HearsUnread, HearsUntil}
use Rattle.tw_sync.specs.Ends.Refused.{AsksOfChain}
use Rattle.tw_sync.specs.Replies.Answers.{HeardRefusedAsk, AskRefused, IsBadlyAnswered}
use Rattle.tw_sync.specs.Ends.Causes.{of_ask}
use Rattle.tw_sync.specs.declared.error.AskError.{AskError}
use Rattle.tw_sync.specs.declared.error.AskError.TheVariants as asking

module _ {L : Type 0} (m : LinkModel L) (old new : L) where
  pub badly_refused : (asked : Request) (bytes : List ℕ) (e : AskError) → IsBadlyAnswered asked bytes e → AskRefused m old new e
  badly_refused asked bytes (asking.Reply kind) b = tt
  badly_refused asked bytes asking.Memory b = tt
  badly_refused asked bytes asking.Link b = absurd b

  abbrev exchange_of : Request → (host reply : List ℕ) → Exchange
  exchange_of asked host reply = record { request = request_text asked host; reply = reply }

  abbrev IsListed : Request → (host reply : List ℕ) → Type 0
  IsListed asked host reply = m.list new ≡ m.list old ++ exchange_of asked host reply ∷ []

  sent_of : (asked : Request) (host reply : List ℕ) → IsSent (client_of asked) host (exchange_of asked host reply) asked
  sent_of asked host reply = record { client_is = refl; text = refl }

  pub hears_one : (asked : Request) (host reply : List ℕ) (r : Result Response HttpError) → IsListed asked host reply → IsResponseAnswer (kind_of asked) reply r → Hears m (client_of asked) host old new (heard asked r ∷ [])
  hears_one asked host reply r listed read = record { exchanges = exchange_of asked host reply ∷ []; listed = listed; are_heard = (record { sent = sent_of asked host reply; read_as = read }, refl) }

  pub hears_unread : (asked : Request) (host reply : List ℕ) → IsListed asked host reply → HearsUnread m (client_of asked) host old new []
  hears_unread asked host reply listed = record { exchanges = []; last = exchange_of asked host reply; listed = listed; are_heard = refl; asked = asked; sent = sent_of asked host reply }

  pub badly_heard : (asked : Request) (host reply : List ℕ) (e : AskError) → AsksOfChain asked → IsListed asked host reply → IsBadlyAnswered asked reply e → (hs : List Heard) × HearsUntil m (client_of asked) host old new hs (of_ask e) × HeardRefusedAsk hs e
  badly_heard asked host reply (asking.Reply kind) of_chain listed (r, read, bad) = (heard asked r ∷ [], hears_one asked host reply r listed read, (heard asked r, refl, (bad, of_chain)))
  badly_heard asked host reply asking.Memory of_chain listed b = ([], inr (hears_unread asked host reply listed), refl)
  badly_heard asked host reply asking.Link of_chain listed b = absurd b
