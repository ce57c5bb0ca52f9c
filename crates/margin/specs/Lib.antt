pub mod Margin
pub mod Law
pub mod Walk
