pub mod Column
pub mod Month
pub mod Plan
