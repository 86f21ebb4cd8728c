pub mod StepLaws
pub mod NearRests
