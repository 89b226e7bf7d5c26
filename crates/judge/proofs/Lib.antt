pub mod Plans
pub mod Alike
