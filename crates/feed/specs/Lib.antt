pub mod Records
pub mod Decode
pub mod Reads
pub mod Readers
pub mod Runs
pub mod Laws
