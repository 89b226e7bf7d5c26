pub mod Steps
pub mod Target
pub mod Judgeable
