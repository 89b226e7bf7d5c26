pub mod Ledger
pub mod Story
pub mod Demand3
pub mod Book
