pub mod Runs
pub mod JournalText
pub mod Parts
pub mod Budget
pub mod Moves
pub mod InTurn
pub mod Laws
pub mod Rows
