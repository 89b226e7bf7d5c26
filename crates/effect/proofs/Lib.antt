pub mod Sent
pub mod Writes
pub mod Alone
pub mod Cases
pub mod Told
pub mod Bodies
