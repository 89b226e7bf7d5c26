pub mod Marks
pub mod Lives
pub mod Found
pub mod Walking
pub mod Listed
