use Rattle.std.proofs.Common.{ℕ, List, sym, ap, ◌∙◌, subst, take, drop, arith}
use Rattle.rho_lanes.specs.Differences.{AreParted}
use Rattle.state_reader.specs.Files.{heading, IsWrongHeading}
use Rattle.state_reader.proofs.Heading.{place-same, wrong-heading}
use Rattle.state_reader.proofs.header.take_heading.Goals as goal

pub returns-in-Some-clause-wrong : goal.returns-in-Some-clause-wrong
returns-in-Some-clause-wrong c = λ at e.
    let n = c.min-len.result in
    let k = c.in-Some.at in
    let a = c.front_of.ensures in
    let b = c.front_of-2.ensures in
    subst (λ z. IsWrongHeading z c.args.bytes.now) (place-same e)
    (wrong-heading c.args.bytes.now n k (omega (arith, c.min-len.ensures)) (ap (take k) (sym a) ∙ c.in-Some.ensures.0 ∙ ap (take k) b)
    (subst (λ (z : List ℕ). AreParted (drop k z) (drop k (take n heading))) a (subst (λ (z : List ℕ). AreParted (drop k c.front_of.result.now) (drop k z)) b c.in-Some.ensures.1)))
