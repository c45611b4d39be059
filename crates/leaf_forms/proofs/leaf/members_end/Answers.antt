use Rattle.calculus.specs.declared.plain.Rest.TheVariants as rests
use Rattle.std.proofs.Common.{◌≡◌, sym, ◌∙◌, true, false}
use Rattle.grammar.specs.declared.mark.Mark.TheVariants as marks
use Rattle.grammar.specs.Descent.{no_sign, runs_sign}
use Rattle.grammar.specs.Terminals.{sees}
use Rattle.token_cursor.specs.Meaning.{view}
use Rattle.token_cursor.specs.Cursors.{value_of}
use Rattle.token_cursor.proofs.Steps.{carry, closes_on, leave, rest_next}
use Rattle.leaf_forms.proofs.leaf.members_end.Goals as goal

pub returns-in_err-expect-clause-reads : goal.returns-in_err-expect-clause-reads
returns-in_err-expect-clause-reads c = λ free f next n.
    let a : sees marks.Comma (view c.args.cursor.now.rest.now) ≡ true = sym c.sees.ensures ∙ c.if-sees.true in
    leave (value_of f) _ _ c.from_residual.ensures.1 (rw a (no_sign c.in_err-expect.ensures.reads))

pub returns-then-sees-clause-reads : goal.returns-then-sees-clause-reads
returns-then-sees-clause-reads c = λ free f next n.
    let a : sees marks.Comma (view c.args.cursor.now.rest.now) ≡ true = sym c.sees.ensures ∙ c.if-sees.true in
    let e : sees marks.Ellipsis (view c.expect.new.self.rest.now) ≡ true = rest_next c.requires c.in_ok-expect.ensures.reads in
    carry (value_of f) _ _ (λ out h. rw a (runs_sign c.in_ok-expect.ensures.reads (n _ out e h))) (c.rest_closed.ensures.reads free f)

pub returns-then-sees-2-clause-reads : goal.returns-then-sees-2-clause-reads
returns-then-sees-2-clause-reads c = λ free f next n.
    let a : sees marks.Comma (view c.args.cursor.now.rest.now) ≡ false = sym c.sees.ensures ∙ c.if-sees.false in
    let b : sees marks.Ellipsis (view c.args.cursor.now.rest.now) ≡ true = sym c.sees-2.ensures ∙ c.if-sees-2.true in
    rw (a, b) (c.rest_closed-then-sees-2.ensures.reads free f)

pub returns-clause-reads : goal.returns-clause-reads
returns-clause-reads c = λ free f next n.
    let a : sees marks.Comma (view c.args.cursor.now.rest.now) ≡ false = sym c.sees.ensures ∙ c.if-sees.false in
    let b : sees marks.Ellipsis (view c.args.cursor.now.rest.now) ≡ false = sym c.sees-2.ensures ∙ c.if-sees-2.false in
    rw (a, b) (closes_on _ _ _ _ (value_of f) rests.No _ c.closed.ensures.reads)
