use Rattle.std.proofs.Common.{◌≡◌, ◌≤◌, ◌++◌, length, map as each}
use Rattle.std.specs.Str.Iter.{char_indices_rest, char_indices_offset}
use lib.Utf8.{encodes}
use Rattle.value_ops.proofs.texts.place_of.Given as goal

abbrev pub invariant-loop-at : goal.invariant-loop-at
invariant-loop-at l =
    (l.passed ≡ length l.yielded) × (l.passed ≤ l.index) × (l.text ≡ encodes (each (λ p. p.1) l.yielded) ++ char_indices_rest l.at-iterator) × (char_indices_offset l.at-iterator ≡ length (encodes (each (λ p. p.1) l.yielded)))
