-- Names and paths: equality, order and spelling.
pub mod Orders
pub mod Same
pub mod Spelling
