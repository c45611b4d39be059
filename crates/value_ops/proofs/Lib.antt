pub mod Arguments
pub mod Characters
pub mod Cutting
pub mod Hexadecimal
pub mod SameCodes
pub mod Seeing
