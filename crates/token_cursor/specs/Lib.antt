pub mod Cursors
pub mod Levels
pub mod Meaning
pub mod Reading
pub use Rattle.form_parts.specs.Forms
