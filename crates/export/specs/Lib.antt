pub mod Sheet
pub mod Demand3
pub mod UsbFirst
pub mod Ranges
pub mod Calls
pub mod Untouched
pub mod State
pub mod Plan
