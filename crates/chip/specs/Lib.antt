pub mod Chips
pub mod Voltage
