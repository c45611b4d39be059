use Rattle.rho_lexer.proofs.first_token.Goals as goal

pub returns-then-begins_word : goal.returns-then-begins_word
returns-then-begins_word c = c.word.ensures c.args.at
