pub mod Kept
pub mod Groups
pub mod Texts
pub mod Pages
pub mod Marks
pub mod Made
