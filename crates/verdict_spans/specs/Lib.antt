pub mod Mondays
pub mod Listing
