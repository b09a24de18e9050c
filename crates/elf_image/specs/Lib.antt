pub mod Accepted
pub mod Fields
pub mod Headers
pub mod Image
pub mod Pages
pub mod Rows
