use Rattle.std.proofs.Common.{subst}
use Rattle.grammar.specs.declared.mark.Mark.{Mark}
use Rattle.token_cursor.specs.Cursors.{ReadsOpening}
use Rattle.token_cursor.proofs.cursor.Cursor.opens_bang.Goals as goal

pub returns-clause-reads : goal.returns-clause-reads
returns-clause-reads c = subst (λ (m : Mark). ReadsOpening c.args.self.now m 0 c.args.free c.opens.result c.opens.new.self) c.bang_mark.ensures c.opens.ensures.reads
