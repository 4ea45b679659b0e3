pub mod Winner
