pub mod Answered
pub mod Asked
pub mod Blocks
pub mod Candidates
pub mod Months
pub mod Pages
pub mod Scan
