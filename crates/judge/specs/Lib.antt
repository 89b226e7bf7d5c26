pub mod Shared
pub mod Judge
