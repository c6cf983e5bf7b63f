mod Words
mod Asks
mod FirstPart
mod NextWord
mod AskedWith
pub mod OneMode
