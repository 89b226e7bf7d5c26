pub mod Passed
pub mod Parts
pub mod Laying
