pub mod Drawers
pub mod Cabinets
pub mod Owes
