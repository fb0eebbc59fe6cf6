pub mod All
pub mod Digest
pub mod Merge
pub mod Order
