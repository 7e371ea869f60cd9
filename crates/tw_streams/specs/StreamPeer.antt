-- A stream as a peer. It tells nothing of what it gives and gets.
use Rattle.std.specs.Prelude.{[], false}
use Rattle.tw_world.specs.Peer.{PeerModel}
use Rattle.tw_streams.specs.declared.peer.StreamPeer.{StreamPeer}

abbrev pub peer_model : {S : Type 0} → PeerModel (StreamPeer S)
peer_model = record { faults = λ p. p.faults; tells = λ p. false; rest = λ p. []; held = λ p. [] }
