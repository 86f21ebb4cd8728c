pub mod Judging
pub mod FormLaws
pub mod MinuteLaws
