pub mod Search
pub mod Leading
