pub mod Access
pub mod Decision
pub mod Lines
