use Rattle.std.proofs.Common.{subst}
use Rattle.grammar.specs.declared.mark.Mark.{Mark}
use Rattle.token_cursor.specs.Cursors.{ReadsMark}
use Rattle.token_cursor.proofs.cursor.Cursor.expect_bang.Goals as goal

pub returns-clause-reads : goal.returns-clause-reads
returns-clause-reads c = subst (λ (m : Mark). ReadsMark c.args.self.now m c.expect.result c.expect.new.self) c.bang_mark.ensures c.expect.ensures.reads
