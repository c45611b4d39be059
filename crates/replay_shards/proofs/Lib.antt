pub mod Trying
pub mod Lacking
pub mod Fitting
pub mod Calling
pub mod Drawing
pub mod Receiving
pub mod Moving
