pub mod Clock
pub mod Delay
pub mod Gpout
pub mod Pio
