pub mod Ors
pub mod Plain
pub mod Turned
pub mod Window
