pub mod Words
pub mod Applied
