pub mod Template
pub mod Writing
pub mod Again
