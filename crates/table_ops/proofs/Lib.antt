pub mod Carried
pub mod ChangeLaws
pub mod Deciding
