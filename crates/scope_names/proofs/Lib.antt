mod Places
pub mod Insides
pub mod Scopes
