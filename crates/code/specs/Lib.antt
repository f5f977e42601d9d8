pub mod Numbers
pub mod Code
pub mod Widths
pub mod Neighbours
pub mod Lines
pub mod Laws
pub mod Examples
pub mod Numbered
