-- What is seen to suit suits.
use Rattle.std.proofs.Common.{◌≡◌, ℕ, ◌+◌, ◌<◌, ◌^◌, arith}
use Rattle.calculus.specs.Tree.{Tree}
use Rattle.calculus.specs.Form.{Sort, term, pair_of}
use Rattle.rho_term.specs.Faults.{faults}
use Rattle.rho_term.specs.Normal.{IsNormal}
use Rattle.rho_term.specs.Parts.{pair_tree}
use Rattle.rho_term.specs.Sizes.{in_u64, size}
use Rattle.term_encoder.proofs.Lengths.{size-code}
use Rattle.term_order.specs.Orders.{Suits}
use Rattle.term_order.proofs.Faultless.{faultless}

pub seen : (s : Sort) (t : Tree) (n : ℕ) → n ≡ in_u64 (size t) → n < 2 ^ 32 → faults s t ≡ 0 → IsNormal t → Suits s t
seen s t n e h f m = faultless s t m f (omega (arith, size-code t))

pub pair-seen : (q : Tree × Tree) (n : ℕ) → n ≡ in_u64 (in_u64 (size q.0) + in_u64 (size q.1)) → n < 2 ^ 32 → faults term q.0 ≡ 0 → faults term q.1 ≡ 0
    → IsNormal q.0 → IsNormal q.1 → Suits (pair_of term) (pair_tree q)
pair-seen q n e h f g m k = faultless (pair_of term) (pair_tree q) (tt, (m, (k, tt))) (omega arith) (omega (arith, size-code (pair_tree q)))
