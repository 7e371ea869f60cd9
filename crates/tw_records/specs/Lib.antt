pub mod Log
pub mod Bodies
pub mod Reading
pub mod Table
pub mod Opening
pub mod Laws
pub mod Demands
