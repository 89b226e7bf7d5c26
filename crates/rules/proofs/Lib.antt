pub mod Bits
pub mod Groups
pub mod Lives
pub mod Descriptors
pub mod Growing
