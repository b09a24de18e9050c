pub mod KeptSizes
pub mod Layout
pub mod PagePlan
pub mod Pages
pub mod Sizes
