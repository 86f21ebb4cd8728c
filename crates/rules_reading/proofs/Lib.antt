pub mod WalkLaws
pub mod LaterLaws
