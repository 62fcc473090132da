pub mod Flags
pub mod Members
