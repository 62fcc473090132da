pub mod Drafting
pub mod Fronts
pub mod Links
pub mod Numerals
pub mod Operating
pub mod Tables
pub mod Written
