pub mod Good
pub mod Noting
pub mod Order
pub mod Meaning
pub mod Forms
pub mod Taken
pub mod Grammar
pub mod Versions
