mod Patterned
mod Standings
mod Handing
mod Steps
mod Feeds
mod Ends
mod Kept
mod Making
