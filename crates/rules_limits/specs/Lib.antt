pub mod Account
pub mod Runs
pub mod Parts
