pub mod Buffers
pub mod Sums
