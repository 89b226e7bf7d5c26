pub mod Pieces
pub mod Filled
pub mod Values
pub mod Sizes
pub mod RecordAgain
pub mod ReadBack
