use Rattle.std.proofs.Common.{length, sym, arith}
use Rattle.std.specs.Prelude.{nat_eq}
use Rattle.std.proofs.lemmas.List.Sums.{position_or_len_is}
use borrow.Author.Tests.{eq-eqb, ne_eqb}
use Rattle.rho_lexer.proofs.gap.line_len.Goals as goal

pub returns-then-byte-eq10 : goal.returns-then-byte-eq10
returns-then-byte-eq10 c = sym (position_or_len_is (λ b. nat_eq b 10) c.args.text.now c.loop-i.i 0 (omega arith)
    (λ k p. ne_eqb _ 10 (c.loop-i.invariant k p)) (λ _. eq-eqb _ 10 c.if-byte-eq10.true))

pub returns : goal.returns
returns c = sym (position_or_len_is (λ b. nat_eq b 10) c.args.text.now (length c.args.text.now) 0 (omega arith)
    (λ k p. ne_eqb _ 10 (c.loop-i.invariant k (omega arith))) (λ p. absurd (omega arith)))
