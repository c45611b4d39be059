use Rattle.std.proofs.Common.{arith}
use Rattle.radix_root.proofs.Halves.{even-half, odd-half}
use Rattle.radix_root.proofs.digests.half_at.Goals as goal

pub returns-then-place-eq0-clause-half : goal.returns-then-place-eq0-clause-half
returns-then-place-eq0-clause-half c = even-half c.args.key.now.0 c.args.place (omega arith)

pub returns-else-place-eq0-clause-half : goal.returns-else-place-eq0-clause-half
returns-else-place-eq0-clause-half c = odd-half c.args.key.now.0 c.args.place (λ e. omega arith)
