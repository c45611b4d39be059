use Rattle.std.proofs.Common.{arith}
use Rattle.code_faults.proofs.Exit.{exit}
use Rattle.code_faults.proofs.BegunLeaves.{number-begun_origins, origin-cut}
use Rattle.code_faults.proofs.Places.{goes-on, goes-here}
use Rattle.code_faults.proofs.TextRefusals.{origins-refused}
use Rattle.code_faults.proofs.BlamedLeaves.{number-origins, origins-wrong}
use Rattle.code_fields.proofs.reader.Reader.origins.Goals as goal

pub returns-in_err-origin-clause-refuses : goal.returns-in_err-origin-clause-refuses
returns-in_err-origin-clause-refuses c = exit _ _ _ c.from_residual-in_err-origin.ensures.1
    (origins-refused c.in_ok-count.count c.loop-i.origins.items _ _ c.in_ok-count.ensures.is (omega arith) c.loop-i.invariant.0 c.in_err-origin.ensures.refuses (omega (arith, c.loop-i.invariant.1)))

pub returns-in_err-count-clause-wrong : goal.returns-in_err-count-clause-wrong
returns-in_err-count-clause-wrong c = exit _ _ _ c.from_residual.ensures.1 (number-origins c.in_err-count.ensures.wrong)

pub returns-in_err-origin-clause-wrong : goal.returns-in_err-origin-clause-wrong
returns-in_err-origin-clause-wrong c = exit _ _ _ c.from_residual-in_err-origin.ensures.1
    (origins-wrong c.in_ok-count.count c.loop-i.origins.items _ _ c.in_ok-count.ensures.is (omega arith) c.loop-i.invariant.0 c.in_err-origin.ensures.wrong (omega (arith, c.loop-i.invariant.1)))

pub returns-in_err-count-clause-begun : goal.returns-in_err-count-clause-begun
returns-in_err-count-clause-begun c = exit _ _ _ c.from_residual.ensures.1 (λ s. goes-on (c.in_err-count.ensures.begun s (omega arith)) (λ z n. number-begun_origins n.number n.enough n.cut))

pub returns-in_err-origin-clause-begun : goal.returns-in_err-origin-clause-begun
returns-in_err-origin-clause-begun c = exit _ _ _ c.from_residual-in_err-origin.ensures.1
    (λ s. goes-here _ (origin-cut c.in_ok-count.count c.loop-i.origins.items _ _ c.in_ok-count.ensures.is c.loop-i.invariant.0 (omega (arith, c.loop-i.invariant.1))) c.in_err-origin.ensures.place)
