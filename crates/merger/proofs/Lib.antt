pub mod Looking
pub mod Ordered
pub mod Passes
pub mod Passing
