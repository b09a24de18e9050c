pub mod Word
pub mod Ranges
pub mod Table
