pub mod Bounds
pub mod Pio
pub mod Settling
