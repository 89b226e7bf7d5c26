pub mod Fits
pub mod Alike
pub mod Decided
pub mod Lines
pub mod Formed
