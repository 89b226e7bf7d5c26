pub mod Table
pub mod Own
pub mod Kin
pub mod Sound
pub mod Kinship
pub mod Effects
pub mod Theorems
