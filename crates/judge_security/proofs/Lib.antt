pub mod Gates
pub mod Deciding
pub mod Gated
pub mod Sure
pub mod Alike
pub mod Denied
