pub mod Years
pub mod Matching
pub mod Rows
pub mod Histories
pub mod LiveRows
pub mod LiveHistories
pub mod Outcomes
pub mod Words
pub mod EntryWords
mod Ranges
