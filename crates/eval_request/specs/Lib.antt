pub mod Asked
pub mod Numeral
