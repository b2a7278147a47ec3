pub mod Laws
mod Reading
mod Repeating
mod Opens
mod Writing
mod Lent
mod Plays
