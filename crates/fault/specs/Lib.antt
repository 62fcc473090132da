pub mod Causes
pub mod Telling
