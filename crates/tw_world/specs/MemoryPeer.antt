-- A peer in memory.
use Rattle.std.specs.Prelude.{◌≡◌, ℕ, Bool, List, [], true, drop}
use Rattle.tw_world.specs.Peer.{PeerModel}
use Rattle.tw_world.specs.Calls.{is_to_fail, counted, failed}
use Rattle.tw_world.specs.declared.memory_peer.MemoryPeer.{MemoryPeer}

-- the bytes that are still to be read
abbrev pub peer_rest : MemoryPeer → List ℕ
peer_rest p = drop p.at p.content.items

-- the bytes written to it
abbrev pub peer_bytes : MemoryPeer → List ℕ
peer_bytes p = p.written.items

abbrev pub memory_peer_model : PeerModel MemoryPeer
memory_peer_model = record { faults = λ p. p.calls.faults; tells = λ p. true; rest = peer_rest; held = peer_bytes }

-- how many calls were made, of both kinds
abbrev pub peer_calls : MemoryPeer → ℕ
peer_calls p = p.calls.made

-- the numbers of the calls that are to fail
abbrev pub peer_fails : MemoryPeer → List ℕ
peer_fails p = p.calls.fails.items

-- a new peer, that gives these bytes and got none, and whose calls with these numbers are to fail
abbrev pub IsNewPeer : (content fails : List ℕ) → MemoryPeer → Type 0
IsNewPeer content fails p = (peer_rest p ≡ content) × (peer_bytes p ≡ []) × (peer_calls p ≡ 0) × (peer_fails p ≡ fails) × (memory_peer_model.faults p ≡ 0)

-- is the next call one that is to fail?
abbrev pub peer_due : MemoryPeer → Bool
peer_due p = is_to_fail (peer_fails p) (peer_calls p)

-- only the count of calls and that of faults went up
abbrev pub PeerRefused : MemoryPeer → MemoryPeer → Type 0
PeerRefused old new = new ≡ record old { calls = failed (counted old.calls) }
