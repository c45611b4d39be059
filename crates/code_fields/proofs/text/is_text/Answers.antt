use Rattle.code_faults.proofs.TextRefusals.{no_key}
use Rattle.code_fields.proofs.text.is_text.Goals as goal

pub returns-then-is_word-clause-all : goal.returns-then-is_word-clause-all
returns-then-is_word-clause-all c = λ h. no_key c.args.bytes.now c.is_key.result c.is_key.ensures (rw c.in-Word.is at h)
