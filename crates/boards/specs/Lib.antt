pub mod Bench
pub mod History
