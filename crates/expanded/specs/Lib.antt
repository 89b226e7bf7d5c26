pub mod Object
pub mod Condition
pub mod Expanded
pub mod Writing
pub mod Theorems
pub mod Lines
