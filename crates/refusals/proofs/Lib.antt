pub mod Examined
pub mod Accepted
pub mod Numbers
pub mod Stored
pub mod Worded
pub mod Default
pub mod Found
