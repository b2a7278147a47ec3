-- What is true of the definitions in specs/. The crates above cite these laws.
pub mod Below
pub mod Lists
pub mod Sets
pub mod Places
pub mod Conditions
pub mod Products
pub mod Halves
pub mod Text
