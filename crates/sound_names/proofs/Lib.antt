pub mod Alike
pub mod OneName
pub mod Pairs
