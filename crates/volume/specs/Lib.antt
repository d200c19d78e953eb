pub mod Acts
pub mod Blank
pub mod Contents
pub mod Views
pub mod Writing
