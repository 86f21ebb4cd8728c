pub mod MoveLaws
pub mod Moving
pub mod Worked
