pub mod Placing
pub mod Linking
