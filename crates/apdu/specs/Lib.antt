pub mod Apdu
