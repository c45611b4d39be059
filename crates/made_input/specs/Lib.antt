pub mod MadeInput
pub mod Examples
pub mod Laws
