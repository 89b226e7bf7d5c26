pub mod Directories
