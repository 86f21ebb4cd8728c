pub mod Driving
pub mod Accumulated
pub mod FirstPart
pub mod DayEnds
pub mod Rules
pub mod AccountRight
pub mod Steps
pub mod PartRight
