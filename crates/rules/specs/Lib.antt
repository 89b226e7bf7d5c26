pub mod Descriptor
pub mod Life
pub mod Value
pub mod Condition
pub mod Group
pub mod Rule
pub mod Bytes
