pub mod FileMap
pub mod Files
pub mod Told
pub mod Kept
pub mod Causes
pub mod Answer
pub mod Put
