-- What reads and writes leave in a store.
pub mod Bodies
pub mod Writes
