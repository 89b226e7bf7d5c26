pub mod Making
pub mod Reporting
