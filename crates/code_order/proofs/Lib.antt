pub mod Keys
pub mod Unique
pub use Rattle.code_order.proofs.Keys
pub use Rattle.code_order.proofs.Unique
pub mod Made
pub mod Seen
pub mod Turns
