pub mod Run
pub mod Calls
