pub mod Finding
pub mod FromSound
pub mod Own
pub mod Ruling
