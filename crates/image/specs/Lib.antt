pub mod Layout
pub mod Kin
