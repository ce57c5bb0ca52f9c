pub mod Book
pub mod Law
pub mod Lookup
pub mod Page
