pub mod Laws
pub mod Judging
mod States
mod Naming
mod Reading
mod Running
mod Testing
mod Known
mod Loops
mod Lists
mod Districts
mod Doing
mod Filling
mod Making
mod Showing
mod Depended
mod Working
mod Touching
mod Beginning
