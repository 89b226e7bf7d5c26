pub mod Above
pub mod Noting
