pub mod Dues
pub mod Order
