pub mod Loops
pub mod Turns
pub mod OneBlock
pub mod Table
pub mod Order
pub mod TextOrder
