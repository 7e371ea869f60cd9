-- Laws of messages.
use Rattle.std.specs.Prelude.{◌≡◌, ℕ, List, ◌++◌, Option, Result, Ok}
use Rattle.tw_protocol.specs.Chain.{IsUuid}
use Rattle.tw_protocol.specs.Snapshots.{Account, IsAccount}
use Rattle.tw_http.specs.declared.message.Asked.{Asked}
use Rattle.tw_http.specs.declared.message.Request.{Request}
use Rattle.tw_http.specs.declared.message.Response.{Response}
use Rattle.tw_http.specs.declared.message.HttpError.{HttpError}
use Rattle.tw_http.specs.Messages.{response_text}
use Rattle.tw_http.specs.Requests.{IsRequestAnswer}
use Rattle.tw_http.specs.Responses.{IsResponseAnswer}
use Rattle.tw_http.specs.Lengths.{IsResponseLen}
use Rattle.tw_http.specs.Serving.{kind_of, response_to, AccountFits}

abbrev pub RequestHasOneAnswer : Type 0
RequestHasOneAnswer = (bytes : List ℕ) (r s : Result Request HttpError) → IsRequestAnswer bytes r → IsRequestAnswer bytes s → r ≡ s

abbrev pub ResponseHasOneAnswer : Type 0
ResponseHasOneAnswer = (what : Asked) (bytes : List ℕ) (r s : Result Response HttpError) → IsResponseAnswer what bytes r → IsResponseAnswer what bytes s → r ≡ s

abbrev pub ResponseHasOneLength : Type 0
ResponseHasOneLength = (bytes : List ℕ) (n m : Option ℕ) → IsResponseLen bytes n → IsResponseLen bytes m → n ≡ m

-- the text of the server's answer by an account is read as that answer, whatever follows
abbrev pub ServedIsRead : Type 0
ServedIsRead = (account : Account) (asked : Request) (id more : List ℕ) → IsAccount account → AccountFits account → IsUuid id
    → IsResponseAnswer (kind_of asked) (response_text (response_to account asked id) ++ more) (Ok (response_to account asked id))
