pub mod Grown
pub mod Repeated
pub mod Written
pub mod Texts
pub mod Known
pub mod Ranges
