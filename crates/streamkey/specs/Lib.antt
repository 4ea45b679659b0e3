pub mod Address
pub mod Order
pub mod KeyParts
pub mod Key
pub mod Hash
pub mod Rows
pub mod Packet
pub mod PacketSeen
