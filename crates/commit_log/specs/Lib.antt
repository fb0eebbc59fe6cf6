pub mod Column
pub mod Growing
pub mod Handle
pub mod Log
pub mod Serial
pub mod StoredDelta
