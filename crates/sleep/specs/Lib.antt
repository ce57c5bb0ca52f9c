pub mod Registers
pub mod Bits
pub mod Words
pub mod Sleep
pub mod History
