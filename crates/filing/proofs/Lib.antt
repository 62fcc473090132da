mod Courses
mod Feeding
mod Kept
mod Accepted
mod Replaying
