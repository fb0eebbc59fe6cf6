pub mod Made
pub mod MadeInput
pub mod Makes
pub mod Rows
pub mod Steps
pub mod Terms
pub mod Words
