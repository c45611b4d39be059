use Rattle.std.proofs.Common.{ap, ◌∙◌}
use Rattle.grammar.specs.Terminals.{sees}
use Rattle.token_cursor.specs.Meaning.{view}
use Rattle.token_cursor.proofs.cursor.Cursor.sees_closing.Goals as goal

pub returns : goal.returns
returns c = c.sees.ensures ∙ ap (λ m. sees m (view c.args.self.now.rest.now)) c.closing_mark.ensures
