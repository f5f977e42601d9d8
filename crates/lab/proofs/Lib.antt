pub mod Pushing
pub mod Running
pub mod Filling
pub mod Obeying
pub mod Courses
pub mod Transcripts
