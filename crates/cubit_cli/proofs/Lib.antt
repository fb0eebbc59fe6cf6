mod Endings
mod Missing
mod Options
mod Sessions
