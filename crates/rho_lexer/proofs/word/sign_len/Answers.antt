use Rattle.std.proofs.Common.{◌≡◌, sym, ◌∙◌, true, arith}
use Rattle.tokens.specs.Tables.{signs, is_among}
use Rattle.tokens.proofs.Fronts.{longest_front_is}
use Rattle.rho_lexer.proofs.Signs.{no_long_sign}
use Rattle.rho_lexer.proofs.word.sign_len.Goals as goal

pub loop-len-init : goal.loop-len-init
loop-len-init c = record {
  within = omega arith;
  longer = λ k p q. no_long_sign c.args.text.now k (omega arith) q;
}

pub returns-else-not-is_sign : goal.returns-else-not-is_sign
returns-else-not-is_sign c = sym (longest_front_is (is_among signs) c.args.text.now c.loop-len.len (record {
  within = c.loop-len.invariant.within;
  passes = λ p. (let e : c.is_sign.result ≡ true = search c.if-not-is_sign.false in sym c.is_sign.ensures ∙ e);
  longer = c.loop-len.invariant.longer;
}))

pub returns-after-loop-len : goal.returns-after-loop-len
returns-after-loop-len c = sym (longest_front_is (is_among signs) c.args.text.now c.loop-len.len (record {
  within = c.loop-len.invariant.within;
  passes = λ p. absurd (omega arith);
  longer = c.loop-len.invariant.longer;
}))
