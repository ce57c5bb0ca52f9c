pub mod Writing
pub mod Bools
pub mod Placing
pub mod Products
