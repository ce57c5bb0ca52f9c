pub mod Decimal
pub mod Hex
pub mod Words
pub mod Ascii
pub mod Output
pub mod Reply
