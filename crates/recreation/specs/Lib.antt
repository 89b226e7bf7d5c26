pub mod Recreation
