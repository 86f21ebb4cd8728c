pub mod Moves
pub mod Passes
