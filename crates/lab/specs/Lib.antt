pub mod Lines
pub mod Labs
pub mod Pushes
pub mod Obeying
pub mod Running
pub mod Courses
pub mod Transcripts
