pub mod OneState
pub mod Pricing
pub mod Refusing
pub mod Exact
pub mod ReplayExact
