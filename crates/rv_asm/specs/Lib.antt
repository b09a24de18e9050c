pub mod Encoding
pub mod ElfFile
pub mod Demo
