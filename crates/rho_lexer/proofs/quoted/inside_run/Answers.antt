use Rattle.std.proofs.Common.{length, sym, ap, arith}
use Rattle.std.proofs.lemmas.List.Sums.{prefix_len_is}
use Rattle.rho_lexer.specs.Meaning.{is_inside}
use Rattle.rho_lexer.proofs.quoted.inside_run.Goals as goal

pub returns-then-byte-eq96-clause-value : goal.returns-then-byte-eq96-clause-value
returns-then-byte-eq96-clause-value c =
    sym (prefix_len_is is_inside c.args.bytes.now c.loop-i.i 0 (omega arith) c.loop-i.invariant (λ _. ap is_inside c.if-byte-eq96.true))

pub returns-clause-value : goal.returns-clause-value
returns-clause-value c = sym (prefix_len_is is_inside c.args.bytes.now (length c.args.bytes.now) 0 (omega arith)
    (λ k h. c.loop-i.invariant k (omega arith)) (λ h. absurd (omega arith)))
