pub mod Limits
pub mod Records
pub mod Sound
pub mod Next
pub mod Prefixes
pub mod Held
