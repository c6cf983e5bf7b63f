pub mod Appended
pub mod Numerals
pub mod PartRows
pub mod Words
pub mod Events
pub mod Named
pub mod Fitting
