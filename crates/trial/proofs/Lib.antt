pub mod Starts
pub mod Bounds
pub mod Trials
pub mod Sheets
pub mod Targets
