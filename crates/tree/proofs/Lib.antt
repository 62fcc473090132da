mod Steps
mod Moves
mod Totals
mod Grow
mod Shed
mod Raise
mod Grown
mod Shedding
mod Raising
mod Loose
mod Start
mod Counting
mod Sharing
mod Children
pub mod Out
pub mod Holding
pub mod Using
