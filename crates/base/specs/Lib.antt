pub mod Choice
pub mod Widths
pub mod Refusals
pub mod Answer
pub mod Placed
pub mod Writing
pub mod Bounded
