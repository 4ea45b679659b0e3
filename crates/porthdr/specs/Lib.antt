pub mod Kind
pub mod Tcp
pub mod Udp
pub mod Transport
pub mod Views
pub mod Laws
pub mod Rows
