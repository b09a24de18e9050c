pub mod Accesses
pub mod Answers
pub mod Code
pub mod Effect
pub mod Hart
pub mod Operations
pub mod Touched
