pub mod Laws
pub mod Always
pub mod Order
