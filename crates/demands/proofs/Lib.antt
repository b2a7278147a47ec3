mod Acts
mod Tables
mod Events
mod Items
mod Leaving
mod Assignments
mod Ledger
mod Marking
mod Guesses
mod Choosing
mod Beginning
mod Invariant
mod Opening
pub mod Demand3
mod Sheets
mod Settled
pub mod Demand1
pub mod Demand2
mod Lines
pub mod Examples
pub mod All
