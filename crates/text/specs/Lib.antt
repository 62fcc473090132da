pub mod Manners
pub mod Passing
pub mod Texts
pub mod TextMeaning
pub mod TextState
pub mod Moving
pub mod Planning
pub mod Laws
