pub mod Told
pub mod NewRecord
pub mod MadeAgain
pub mod Somewhere
