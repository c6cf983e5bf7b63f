pub mod Elements
pub mod Joined
pub mod Appended
pub mod Arguments
pub mod Lists
pub mod Seen
pub mod Numbered
pub mod QuotedNames
