use Rattle.std.proofs.Common.{take, arith}
use Rattle.std.proofs.lemmas.List.Sums.{AllPass-from_list_all}
use Rattle.tokens.specs.Bytes.{is_digit}
use Rattle.rho_lexer.proofs.Numbers.{too_large, fits}
use Rattle.rho_lexer.proofs.Steps.{run_passes}
use Rattle.rho_lexer.proofs.number.integer.Goals as goal

pub saturating_value-value-requires : goal.saturating_value-value-requires
saturating_value-value-requires c = AllPass-from_list_all is_digit (take c.digit_run-len.result c.args.text.now)
    (run_passes is_digit c.args.text.now c.digit_run-len.result (omega arith))

pub returns-then-value-gt-GREATEST : goal.returns-then-value-gt-GREATEST
returns-then-value-gt-GREATEST c = too_large c.args.at c.args.text.now c.digit_run-len.result c.saturating_value-value.result
    c.requires.some c.requires.digit c.digit_run-len.ensures c.saturating_value-value.ensures c.if-value-gt-GREATEST.true

pub returns : goal.returns
returns c = fits c.args.at c.args.text.now c.digit_run-len.result c.saturating_value-value.result
    c.requires.some c.requires.digit c.digit_run-len.ensures c.saturating_value-value.ensures c.if-value-gt-GREATEST.false
