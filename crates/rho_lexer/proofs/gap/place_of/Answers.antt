use Rattle.std.proofs.Common.{sym, ◌∙◌, arith}
use Rattle.rho_lexer.proofs.Gaps.{place_some, place_none}
use Rattle.rho_lexer.proofs.Steps.{rest_is}
use Rattle.rho_lexer.proofs.gap.place_of.Goals as goal

pub returns-then-starts_with-clause-value : goal.returns-then-starts_with-clause-value
returns-then-starts_with-clause-value c = sym (place_some c.args.needle.now c.args.text.now c.loop-i.i c.loop-i-test.true
    (let here = sym c.starts_with.ensures.value ∙ c.if-starts_with.true in rw rest_is at here) c.loop-i.invariant)

pub returns-clause-value : goal.returns-clause-value
returns-clause-value c = sym (place_none c.args.needle.now c.args.text.now (λ k p. c.loop-i.invariant k (omega arith)))
