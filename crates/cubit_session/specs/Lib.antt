pub mod Alone
pub mod Run
pub mod Step
pub mod Through
