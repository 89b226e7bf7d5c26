pub mod Cases
pub mod Settled
