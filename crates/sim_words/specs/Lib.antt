pub mod CommandLine
pub mod Requests
pub mod Spelling
pub mod Values
