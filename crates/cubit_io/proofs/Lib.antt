mod Names
mod Reading
mod Writing
