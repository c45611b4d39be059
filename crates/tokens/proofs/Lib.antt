pub mod Contents
pub mod Examples
pub mod Form
pub mod Fronts
pub mod OneReading
pub mod Order
pub mod Within
