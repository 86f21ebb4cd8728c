pub mod SpanLaws
pub mod FromMondays
pub mod Seats
pub mod Putting
