use Rattle.rho_lexer.proofs.Classes.{digit_front}
use Rattle.rho_lexer.proofs.bytes.digit_run.Goals as goal

pub returns : goal.returns
returns c = digit_front c.args.bytes.now c.class_run.result c.class_run.ensures.longest
