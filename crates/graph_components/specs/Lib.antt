pub mod Order
pub mod Components
