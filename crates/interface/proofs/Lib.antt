pub mod CodeLaws
pub mod ReadBack
