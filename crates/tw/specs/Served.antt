-- The words of `tw server`, and the statuses that it ends with.
use Rattle.std.specs.Prelude.{ℕ, ◌^◌, ◌-◌, ◌==◌, ◌&&◌, nat_le, List, [], length, slice_index_or, Option, Some, None, if◌then◌else◌}
use Rattle.tw_text.specs.Natural.{natural}
use Rattle.tw_streams.specs.declared.connection.Limits.{Limits}
use Rattle.tw.specs.declared.server_words.Service.{Service}
use Rattle.tw_server.specs.declared.error.ServerOpenError.{ServerOpenError}
use Rattle.tw_server.specs.declared.error.ServerOpenError.TheVariants as refused
use Rattle.tw_server.specs.declared.serve.ServeEnd.{ServeEnd}
use Rattle.tw_server.specs.declared.serve.ServeEnd.TheVariants.{Served, PeerFault, DiskFault, Closed, Damaged, Memory}

-- a number, if it is one of those from `low` to `high`
abbrev pub within : (low high : ℕ) → Option ℕ → Option ℕ
within low high None = None
within low high (Some n) = if nat_le low n && nat_le n high then Some n else None

-- the port and the number of connections, if both are there
abbrev pub service : Option ℕ → Option ℕ → Option Service
service None count = None
service (Some port) None = None
service (Some port) (Some count) = Some (record { port = port; count = count })

-- the port that a word names, and the number of connections
abbrev pub port_of : List ℕ → Option ℕ
port_of word = within 1 65535 (natural word)

abbrev pub count_of : List ℕ → Option ℕ
count_of word = within 1 999999999 (natural word)

-- what the words ask for: a port, a file, and a number of connections or the largest one
abbrev pub service_of : List (List ℕ) → Option Service
service_of words =
    if length words == 2
    then service (port_of (slice_index_or words 0 [])) (Some (2 ^ 64 - 1))
    else if length words == 3
    then service (port_of (slice_index_or words 0 [])) (count_of (slice_index_or words 2 []))
    else None

-- the status of a server that is not opened
abbrev pub status_of_refusal : ServerOpenError → ℕ
status_of_refusal refused.Disk = 3
status_of_refusal (refused.Damaged offset) = 7
status_of_refusal refused.Memory = 4

-- the status that the end of a connection ends the server with, if it does
abbrev pub last_status : ServeEnd → Option ℕ
last_status (Served status) = None
last_status PeerFault = None
last_status DiskFault = Some 3
last_status Closed = Some 3
last_status (Damaged offset) = Some 7
last_status Memory = None

-- how long a client may be silent, and take for all: without bytes, and at most
abbrev pub server_limits : Limits
server_limits = record { silence_seconds = 10; whole_seconds = 10; most_seconds = 600 }
