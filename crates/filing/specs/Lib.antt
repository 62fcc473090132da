pub mod Channels
pub mod Laws
pub mod Filed
