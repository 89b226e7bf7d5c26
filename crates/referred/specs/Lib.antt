pub mod Padding
pub mod Nearest
pub mod Marks
pub mod Deciding
pub mod Ticket
pub mod Lines
