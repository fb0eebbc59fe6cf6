pub mod Base
pub mod Call
pub mod Halt
pub mod Reply
pub mod Status
pub mod Trouble
pub mod Words
pub mod World
