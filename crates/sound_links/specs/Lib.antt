pub mod Linked
pub mod Gathers
