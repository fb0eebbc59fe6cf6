pub mod Chain
pub mod Core
pub mod Growing
pub mod HeldCore
pub mod Run
pub mod Steps
pub mod Terms
