use Rattle.rho_lexer.proofs.Classes.{blank_front}
use Rattle.rho_lexer.proofs.bytes.blank_run.Goals as goal

pub returns : goal.returns
returns c = blank_front c.args.bytes.now c.class_run.result c.class_run.ensures.longest
