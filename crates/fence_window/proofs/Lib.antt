pub mod Blocks
pub mod Fences
pub mod Ors
pub mod Pages
pub mod Places
pub mod Toggled
pub mod Windows
