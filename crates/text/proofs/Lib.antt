pub mod Decimals
pub mod Hexes
pub mod HexWords
pub mod Lines
pub mod Outputs
pub mod Same
pub mod Refused
pub mod Spaced
