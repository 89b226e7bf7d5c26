pub mod Bits
pub mod Walking
