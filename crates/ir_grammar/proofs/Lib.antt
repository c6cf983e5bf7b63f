pub mod Refilled
pub mod OnePlace
pub mod OneNumbering
