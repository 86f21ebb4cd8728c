pub mod NetWalk
