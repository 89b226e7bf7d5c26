pub mod Walks
pub mod Lists
pub mod Tests
pub mod Settled
