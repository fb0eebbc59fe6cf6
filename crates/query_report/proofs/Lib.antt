mod Calendar
pub mod Digits
pub mod Drops
pub mod Forms
pub mod Front
pub mod Held
pub mod Journals
pub mod Reading
pub mod Rows
pub mod Workers
mod Writing
