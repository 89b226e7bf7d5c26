pub mod Search
pub mod Climb
