pub mod Lasting
pub mod Losing
pub mod Memory
pub mod Place
pub mod Store
pub mod Version
