pub mod Heads
pub mod Compensations
pub mod Carriers
pub mod Matching
pub mod Monotone
pub mod Windows
pub mod RunLaws
pub mod Courses
