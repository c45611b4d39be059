pub mod View
pub mod Reading
pub mod Laws
pub mod Known
pub mod ReadableLaws
