-- Lengths of codes, counted form by form.
pub use Rattle.rho_term.specs.Sizes.{in_u64, head_size, size, sizes}
