-- What is true of the definitions in specs/. The crates above cite these laws.
pub mod Show
pub mod Open
pub mod Places
pub mod Walk
pub mod Sample
