-- What it does to a link to ask for versions, one after another: nothing is added but what others add.
use Rattle.std.specs.Prelude.{◌≡◌, ℕ, IsTrue, List, ◌++◌}
use Rattle.std.specs.List.{AllByRecursion}
use Rattle.tw_http.specs.Link.{LinkModel, Exchange, IsHonest}
use Rattle.tw_http.specs.Messages.{request_text}
use Rattle.tw_http.specs.declared.message.Request.TheVariants as asks
use Rattle.tw_sync.specs.Replies.Answers.{IsLinkKept, GrowsOn}

-- an exchange that sent a get-child-version of this client
abbrev pub IsQuestion : (client host : List ℕ) → Exchange → Type 0
IsQuestion client host exchange = (parent : List ℕ) × (exchange.request ≡ request_text (asks.Child client parent) host)

-- a link that tells its exchanges tells of such alone
abbrev pub SendsQuestions : {L : Type 0} → LinkModel L → (client host : List ℕ) → (first last : L) → Type 0
SendsQuestions m client host first last =
    IsTrue (m.tells_list first) → (exchanges : List Exchange) × (m.list last ≡ m.list first ++ exchanges) × AllByRecursion (IsQuestion client host) exchanges

-- nothing was sent but such questions. Over an honest link the chain has only grown, and not by what this link sent
pub record Asks {L : Type 0} (m : LinkModel L) (client host : List ℕ) (first last : L) : Type 0 where
  pub kept : IsLinkKept m first last
  pub sends : SendsQuestions m client host first last
  pub grows : IsHonest m first client → GrowsOn m first last client
  pub mine : IsHonest m first client → m.own last ≡ m.own first
