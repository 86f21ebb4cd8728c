pub mod States
pub mod Runs
pub mod Completable
pub mod Better
pub mod Courses
pub mod First
