pub mod Load
pub mod Lcg
pub mod Targets
