pub mod Settling
pub mod Rising
pub mod Taking
