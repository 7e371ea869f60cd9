pub mod Stream
pub mod StreamPeer
pub mod StreamSource
pub mod Waits
pub mod Framing
pub mod Asked
pub mod Noted
