pub mod Agreement
pub mod Start
pub mod End
pub mod Laws
