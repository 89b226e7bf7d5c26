pub mod Form
pub mod Data
pub mod Good
pub mod Grammar
pub mod Lines
