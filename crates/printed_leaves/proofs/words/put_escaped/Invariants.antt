use Rattle.std.proofs.Common.{◌≡◌, ◌≤◌, ◌++◌, length, drop, flat_map}
use Rattle.calculus.specs.Printed.{escaped}
use Rattle.printed_leaves.proofs.words.put_escaped.Given as goal

abbrev pub invariant-loop-byte : goal.invariant-loop-byte
invariant-loop-byte l = (length l.initial.out.items ≤ length l.out.items) × (l.out.items ++ flat_map escaped (drop l.byte-index l.text) ≡ l.initial.out.items ++ flat_map escaped l.text)
