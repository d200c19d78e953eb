-- What all the proofs rest on: tests, options, lists, searches and members.
pub mod Counts
pub mod Lists
pub mod Members
pub mod Searches
pub mod Tests
