pub mod Putting
pub mod WrittenLaws
pub mod Worked
