pub mod Graph
pub mod TextOrder
pub mod EdgeLists
pub mod Flow
pub mod EntryWalks
