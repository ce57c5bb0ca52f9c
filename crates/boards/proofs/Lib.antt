pub mod Benches
pub mod History
pub mod Untouched
