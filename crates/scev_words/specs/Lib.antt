pub mod Modes
pub mod Found
pub mod Said
pub mod SaidBy
