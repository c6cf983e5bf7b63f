pub mod Tokenized
pub mod Packed
pub mod InOrder
pub mod Lengths
pub mod FirstToken
pub mod Gap
pub mod Bad
