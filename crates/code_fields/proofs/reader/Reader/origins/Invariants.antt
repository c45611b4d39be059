use Rattle.std.proofs.Common.{◌≡◌, ◌++◌, map, length}
use Rattle.calculus.specs.Kinds.{origin_number}
use Rattle.code_fields.proofs.reader.Reader.origins.Given as goal

abbrev pub invariant-loop-i : goal.invariant-loop-i
invariant-loop-i l = (l.initial.self.input.now ≡ map origin_number l.origins.items ++ l.self.input.now) × (length l.origins.items ≡ l._i)
