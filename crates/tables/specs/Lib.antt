pub mod Rules
pub mod Drawing
pub mod Views
pub mod Plans
pub mod Subtrees
pub mod Writing
