pub mod Words
pub mod Replay
pub mod History
