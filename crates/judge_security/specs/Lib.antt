pub mod Security
