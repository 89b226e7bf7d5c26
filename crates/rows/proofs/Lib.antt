pub mod Opened
pub mod Computed
