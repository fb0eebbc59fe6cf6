pub mod Checksum
pub mod Draws
pub mod Kernel
pub mod Mix
pub mod Names
pub mod Pages
pub mod Rounds
pub mod Times
