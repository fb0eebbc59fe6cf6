pub mod Generator
pub mod Makes
pub mod Reading
pub mod Script
pub mod ScriptLine
pub mod Term
