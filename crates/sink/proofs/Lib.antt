pub mod BitLists
pub mod PairLaws
pub mod Handings
pub mod Exactness
pub mod Turning
pub mod Filing
