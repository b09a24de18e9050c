pub mod Json
pub mod LayoutLines
pub mod ReportLines
pub mod TextLines
pub mod Texts
