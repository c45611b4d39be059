use Rattle.std.proofs.Common.{sym, ◌∙◌, arith}
use Rattle.std.proofs.lemmas.List.Sums.{prefix_len_is}
use Rattle.rho_lexer.specs.Meaning.{is_plain}
use Rattle.rho_lexer.proofs.quoted.plain_run.Goals as goal

pub returns-else-is_plain-clause-value : goal.returns-else-is_plain-clause-value
returns-else-is_plain-clause-value c = sym (prefix_len_is is_plain c.args.bytes.now c.loop-len.len 0 c.loop-len.invariant.within c.loop-len.invariant.each
    (λ _. sym c.is_plain.ensures ∙ c.if-is_plain.false))

pub returns-after-loop-len-clause-value : goal.returns-after-loop-len-clause-value
returns-after-loop-len-clause-value c = sym (prefix_len_is is_plain c.args.bytes.now c.loop-len.len 0 c.loop-len.invariant.within c.loop-len.invariant.each
    (λ h. absurd (omega arith)))
