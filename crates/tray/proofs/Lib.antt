pub mod Verdicts
pub mod Places
mod FlatSteps
mod Halves
