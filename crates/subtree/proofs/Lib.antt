pub mod Way
pub mod Marks
