pub mod Objects
pub mod Nested
pub mod Rows
pub mod Standing
pub mod Alike
pub mod Growing
pub mod Given
