pub mod Right
pub mod Sides
pub mod Unique
