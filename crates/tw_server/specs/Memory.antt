-- A server in memory, and the link to it.
pub mod Holding
pub mod Stored
pub mod Server
pub mod Props
pub mod Script
pub mod Exchange
pub mod Link
