use Rattle.grammar.specs.Terminals.{sees}
use Rattle.token_cursor.specs.Meaning.{view}
use Rattle.token_cursor.specs.Reading.{sees_bind, separator_of}
use Rattle.std.proofs.Common.{ap, sym, true, ◌∙◌, ◌≡◌}
use Rattle.form_ends.proofs.Kept.{bind_mark, takes_as}
use Rattle.form_ends.proofs.next_marks.skip_separator.Goals as goal

pub returns-clause-is : goal.returns-clause-is
returns-clause-is c =
    let b : sees_bind (separator_of c.args.separator) c.args.more (view c.args.cursor.now.rest.now) ≡ true = sym c.sees_bind.ensures.is ∙ c.if-not-sees_bind.false in
    c.skip.ensures.is ∙ (ap (λ k. sees k (view c.args.cursor.now.rest.now)) c.separator_mark.ensures ∙ (bind_mark (separator_of c.args.separator) c.args.more (view c.args.cursor.now.rest.now) b ∙ sym b))

pub returns-clause-takes : goal.returns-clause-takes
returns-clause-takes c = λ e. takes_as _ _ c.separator_mark.ensures (c.skip.ensures.takes e)

pub returns-clause-some : goal.returns-clause-some
returns-clause-some c = λ e. c.sees_bind.ensures.some c.if-not-sees_bind.false
