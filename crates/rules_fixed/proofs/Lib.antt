pub mod NetLaws
pub mod Surveying
