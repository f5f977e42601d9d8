pub mod Letters
pub mod Commands
pub mod Blocks
pub mod Reading
