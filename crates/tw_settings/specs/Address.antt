-- Addresses of servers, as urls name them.
use Rattle.std.specs.Prelude.{ℕ, ◌-◌, ◌==◌, ◌&&◌, ◌||◌, not, Bool, cond, List, Option, Some, None, nat_eq, nat_le, slice_index, length, take, drop, codes}
use Rattle.std.specs.Char.{is_ascii_alphanumeric}
use Rattle.std.specs.List.{list_all, starts_with, before_first, after_first}
use Rattle.tw_text.specs.Natural.{natural}
use Rattle.tw_settings.specs.declared.address.Address.{Address}

-- a byte of a host's name or address (RFC 952)
abbrev pub is_host_byte : ℕ → Bool
is_host_byte b = is_ascii_alphanumeric b || (b == 46) || (b == 45)

-- 1 to 253 of them
abbrev pub is_host : List ℕ → Bool
is_host text = not (length text == 0) && nat_le (length text) 253 && list_all is_host_byte text

-- a number that may be a port
abbrev pub port_of : Option ℕ → Option ℕ
port_of None = None
port_of (Some n) = cond (nat_le 1 n && nat_le n 65535) (Some n) None

-- a host and a port, where both are right
abbrev pub host_and_port : List ℕ → Option ℕ → Option (List ℕ × ℕ)
host_and_port host None = None
host_and_port host (Some port) = cond (is_host host) (Some (host, port)) None

-- the host and the port round a colon
abbrev pub authority_in : List ℕ → Option (List ℕ × ℕ)
authority_in text = host_and_port (before_first (λ b. b == 58) text) (port_of (natural (after_first (λ b. b == 58) text)))

-- a text without one slash at its end
abbrev pub unslashed : List ℕ → List ℕ
unslashed text = cond (slice_index text (length text - 1) == 47) (take (length text - 1) text) text

-- the host and the port that a url names
abbrev pub parts_in : List ℕ → Option (List ℕ × ℕ)
parts_in url = cond (starts_with nat_eq url (codes "http://")) (authority_in (unslashed (drop 7 url))) None

-- an address of these parts
abbrev pub address_of : Option (List ℕ × ℕ) → Option Address
address_of None = None
address_of (Some x) = Some (record { host = x.0; port = x.1 })

-- the address that a url names, if there is one
abbrev pub address_at : Option (List ℕ) → Option Address
address_at None = None
address_at (Some url) = address_of (parts_in url)
