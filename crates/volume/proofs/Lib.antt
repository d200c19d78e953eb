pub mod Acting
pub mod Admitting
pub mod Blanks
pub mod Formatting
pub mod Looking
pub mod Probes
pub mod Readouts
pub mod Writing
