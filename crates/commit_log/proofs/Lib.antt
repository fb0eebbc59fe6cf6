pub mod Adding
pub mod Appending
pub mod Columns
pub mod Others
pub mod Owning
pub mod Searching
pub mod Stretches
