use Rattle.std.proofs.Common.{sym, ◌∙◌}
use Rattle.rho_lexer.proofs.Classes.{some_plain}
use Rattle.rho_lexer.proofs.quoted.plain_piece.Goals as goal

pub returns-then-is_ascii-clause-some : goal.returns-then-is_ascii-clause-some
returns-then-is_ascii-clause-some c =
    some_plain c.args.bytes.now c.args.from c.class_run.result c.class_run.ensures.longest c.requires.inside (sym c.is_ascii.ensures ∙ c.if-is_ascii.true) c.requires.plain
