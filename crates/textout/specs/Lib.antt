pub mod Front
pub mod Texts
pub mod Addresses
pub mod Numbers
pub mod Rows
