pub mod Calls
pub mod Past
pub mod Playing
pub mod Demands
