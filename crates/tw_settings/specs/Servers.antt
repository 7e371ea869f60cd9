-- The sync server that settings name: taskrc(5), under "SYNC".
use Rattle.std.specs.Prelude.{ℕ, List, ◌++◌, Option, Some, None, codes}
use Rattle.std.specs.Fmt.{decimal}
use Rattle.uuid.specs.Text.{parsed}
use Rattle.tw_settings.specs.Address.{parts_in, address_at}
use Rattle.tw_settings.specs.Settings.{Pair, value_of}
use Rattle.tw_settings.specs.declared.address.Address.{Address}
use Rattle.tw_settings.specs.declared.server.ServerSettings.{ServerSettings}

-- the address of the server that settings name
abbrev pub address_set : List Pair → Option Address
address_set pairs = address_at (value_of (codes "sync.server.url") pairs)

-- what names a server in a message: its host, a colon and its port
abbrev pub host_text : List ℕ → ℕ → List ℕ
host_text host port = (host ++ codes ":") ++ decimal port

-- a server and the client that talks to it, where both are known
abbrev pub server_of : Option (List ℕ × ℕ) → Option (List ℕ) → Option ServerSettings
server_of None client = None
server_of (Some x) None = None
server_of (Some x) (Some client) = Some (record { client = client; host = host_text x.0 x.1 })

-- the value of a setting as this reads it
abbrev pub read_by : {A : Type 0} → (List ℕ → Option A) → Option (List ℕ) → Option A
read_by read None = None
read_by read (Some value) = read value

-- the server that settings name, and the client that talks to it
abbrev pub server_set : List Pair → Option ServerSettings
server_set pairs = server_of (read_by parts_in (value_of (codes "sync.server.url") pairs)) (read_by parsed (value_of (codes "sync.server.client_id") pairs))
