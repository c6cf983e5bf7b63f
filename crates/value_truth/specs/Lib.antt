pub mod Available
pub mod Truth
