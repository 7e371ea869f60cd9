-- The bodies of a server's records: a version, a block, a snapshot.
use Rattle.std.specs.Prelude.{ℕ, ◌-◌, ◌==◌, ◌&&◌, not, nat_le, Bool, false, if◌then◌else◌, Option, Some, None}
use Rattle.std.specs.Prelude.{List, [], ◌∷◌, ◌++◌, take, drop, length, flat_map}
use Rattle.uuid.specs.Parts.{zero_bytes}
use Rattle.tw_protocol.specs.Chain.{same_id, has_id, latest}
use Rattle.tw_protocol.specs.Snapshots.{is_welcome}
use Rattle.tw_records.specs.declared.entry.Entry.{Entry}
use Rattle.tw_records.specs.declared.image.Image.{Image}
use Rattle.tw_records.specs.Log.{Accepted, ClientSnapshot, Log, chain_of, account_of}

-- the first byte of a body is its kind
abbrev pub is_kind : ℕ → List ℕ → Bool
is_kind kind [] = false
is_kind kind (first ∷ fields) = first == kind

-- that byte, or 0 if there is none
abbrev pub kind_in : List ℕ → ℕ
kind_in [] = 0
kind_in (first ∷ fields) = first

-- ---- versions

-- the body of an accepted version: the kind 1, the client, the version, its parent, its segment
abbrev pub body_of : Accepted → List ℕ
body_of a = 1 ∷ (a.client ++ (a.version.id ++ (a.version.parent ++ a.version.segment)))

-- what a server has in memory of it
abbrev pub entry_of : Accepted → Entry
entry_of a = record { client = a.client; id = a.version.id; parent = a.version.parent }

-- the version that the fields of a body spell
abbrev pub accepted_in : List ℕ → Accepted
accepted_in body = record {
  client = take 16 (drop 1 body);
  version = record { id = take 16 (drop 17 body); parent = take 16 (drop 33 body); segment = drop 49 body };
}

-- whether bytes have the kind and the fields of an accepted version
abbrev pub is_body : List ℕ → Bool
is_body body = is_kind 1 body && nat_le 49 (length body)

abbrev pub entry_in : List ℕ → Option Entry
entry_in body = if is_body body then Some (entry_of (accepted_in body)) else None

-- a version may come after these: its id is not nil and not in its client's chain, and its parent is the latest one there
abbrev pub is_next_entry : List Accepted → Entry → Bool
is_next_entry log e = not (same_id e.id zero_bytes) && not (has_id e.id (chain_of e.client log)) && same_id (latest (chain_of e.client log)) e.parent

-- a body may come after those of these versions
abbrev pub follows : List Accepted → List ℕ → Bool
follows log body = is_body body && is_next_entry log (entry_of (accepted_in body))

-- ---- blocks

-- so many versions are named by a block
abbrev pub block_size : ℕ
block_size = 256

abbrev pub named : Entry → List ℕ
named e = e.client ++ (e.id ++ e.parent)

-- what the body of an accepted version has before its segment
abbrev pub version_front : Entry → List ℕ
version_front e = 1 ∷ named e

-- the body of a block: the kind 2, and the versions without their segments
abbrev pub block_of : List Entry → List ℕ
block_of entries = 2 ∷ flat_map named entries

abbrev pub last_of : {A : Type 0} → ℕ → List A → List A
last_of n xs = drop (length xs - n) xs

-- ---- snapshots

-- the body of a stored snapshot: the kind 3, the client, the version, the bytes
abbrev pub snapshot_body : ClientSnapshot → List ℕ
snapshot_body t = 3 ∷ (t.client ++ (t.snapshot.version ++ t.snapshot.bytes))

-- what a server has in memory of it
abbrev pub image_of : ClientSnapshot → Image
image_of t = record { client = t.client; version = t.snapshot.version }

-- what its body has before the bytes
abbrev pub snapshot_front : Image → List ℕ
snapshot_front image = 3 ∷ (image.client ++ image.version)

abbrev pub snapshot_for : Image → List ℕ → ClientSnapshot
snapshot_for image bytes = record { client = image.client; snapshot = record { version = image.version; bytes = bytes } }

-- the snapshot that the fields of a body spell
abbrev pub snapshot_in : List ℕ → ClientSnapshot
snapshot_in body = record { client = take 16 (drop 1 body); snapshot = record { version = take 16 (drop 17 body); bytes = drop 33 body } }

-- whether bytes have the kind and the fields of a stored snapshot
abbrev pub is_snapshot_body : List ℕ → Bool
is_snapshot_body body = is_kind 3 body && nat_le 33 (length body)

abbrev pub image_in : List ℕ → Option Image
image_in body = if is_snapshot_body body then Some (image_of (snapshot_in body)) else None

-- a snapshot may be stored after these: its version is in its client's chain, and not before that of the snapshot that is stored
abbrev pub is_next_image : Log → Image → Bool
is_next_image log image = is_welcome (account_of image.client log) image.version

-- a body of a snapshot may come after those of this log
abbrev pub is_stored : Log → List ℕ → Bool
is_stored log body = is_snapshot_body body && is_next_image log (image_of (snapshot_in body))
