pub mod Lines
pub mod Turns
pub mod Made
pub mod Worded
