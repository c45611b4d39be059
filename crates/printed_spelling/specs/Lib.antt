pub mod Spelled
pub mod Ordered
pub mod TermExamples
pub mod TermLaws
pub mod TextExamples
pub mod TextLaws
