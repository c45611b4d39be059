pub mod PriceTable
pub mod Answers
