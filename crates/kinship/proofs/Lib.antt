pub mod Files
pub mod Foreign
pub mod Sameness
pub mod Costs
pub mod Counts
pub mod Steps
pub mod Sound
