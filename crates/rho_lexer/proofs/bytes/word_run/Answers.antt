use Rattle.rho_lexer.proofs.Classes.{word_front}
use Rattle.rho_lexer.proofs.bytes.word_run.Goals as goal

pub returns : goal.returns
returns c = word_front c.args.bytes.now c.class_run.result c.class_run.ensures.longest
