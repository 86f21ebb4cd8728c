pub mod Leading
pub mod Memory
pub mod Slots
pub mod Fronts
pub mod Chain
pub mod Used
