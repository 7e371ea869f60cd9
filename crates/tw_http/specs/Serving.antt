-- Requests and responses as the protocol sees them.
use Rattle.std.specs.Prelude.{ℕ, ◌≤◌, Bool, List, length, All, IfSome}
use Rattle.tw_protocol.specs.Chain.{Version}
use Rattle.tw_protocol.specs.Answer as protocol
use Rattle.tw_protocol.specs.Snapshots as snapshots
use Rattle.tw_http.specs.declared.message.Request.{Request}
use Rattle.tw_http.specs.declared.message.Request.TheVariants.{Add, Child, AddSnapshot, Snapshot}
use Rattle.tw_http.specs.declared.message.Asked.{Asked}
use Rattle.tw_http.specs.declared.message.Asked.TheVariants as asked
use Rattle.tw_http.specs.declared.message.Response.{Response}
use Rattle.tw_http.specs.declared.message.Response.TheVariants as answer
use Rattle.tw_http.specs.declared.message.HttpError.{HttpError}
use Rattle.tw_http.specs.declared.message.HttpError.TheVariants.{TooLong}
use Rattle.tw_http.specs.Messages.{max_body}

-- the client that asks
abbrev pub client_of : Request → List ℕ
client_of (Add client parent segment) = client
client_of (Child client parent) = client
client_of (AddSnapshot client version snapshot) = client
client_of (Snapshot client) = client

-- which request it is
abbrev pub kind_of : Request → Asked
kind_of (Add client parent segment) = asked.Add
kind_of (Child client parent) = asked.Child
kind_of (AddSnapshot client version snapshot) = asked.AddSnapshot
kind_of (Snapshot client) = asked.Snapshot

-- what it asks of the account of its client
abbrev pub demand_of : Request → snapshots.Demand
demand_of (Add client parent segment) = snapshots.Of (protocol.Ask.Add parent segment)
demand_of (Child client parent) = snapshots.Of (protocol.Ask.Child parent)
demand_of (AddSnapshot client version snapshot) = snapshots.Store version snapshot
demand_of (Snapshot client) = snapshots.Fetch

-- the response that says this of a chain, and whether a snapshot is wanted
abbrev pub says : protocol.Finding → Bool → Response
says (protocol.Finding.Added id) wanted = answer.Added id wanted
says (protocol.Finding.Conflict latest) wanted = answer.Conflict latest
says (protocol.Finding.Found v) wanted = answer.Child v.id v.parent v.segment
says protocol.Finding.UpToDate wanted = answer.UpToDate
says protocol.Finding.Gone wanted = answer.Gone
says protocol.Finding.Taken wanted = answer.Taken

-- the response that says this
abbrev pub response_of : snapshots.Reply → Response
response_of (snapshots.Says finding wanted) = says finding wanted
response_of snapshots.Stored = answer.Stored
response_of snapshots.Refused = answer.Bad
response_of (snapshots.Found s) = answer.Snapshot s.version s.bytes
response_of snapshots.Absent = answer.UpToDate

-- the account of its client after a request, if an accepted version gets this id
abbrev pub account_after : snapshots.Account → Request → List ℕ → snapshots.Account
account_after account request id = (snapshots.respond account (demand_of request) id).0

-- the response to a request by the account of its client, if an accepted version gets this id
abbrev pub response_to : snapshots.Account → Request → List ℕ → Response
response_to account request id = response_of (snapshots.respond account (demand_of request) id).1

-- The response to bytes that are no request, or that end inside one. It is asked of no want of memory, which says nothing of bytes
abbrev pub refusal_of : HttpError → Response
refusal_of TooLong = answer.TooLong
refusal_of error = answer.Bad

-- each segment of a chain fits a body
abbrev pub SegmentsFit : List Version → Type 0
SegmentsFit chain = All (λ v. length v.segment ≤ max_body) chain

-- and so do the bytes of the stored snapshot
pub record AccountFits (account : snapshots.Account) : Type 0 where
  pub segments : SegmentsFit account.chain
  pub stored : IfSome account.stored (λ s. length s.bytes ≤ max_body)
