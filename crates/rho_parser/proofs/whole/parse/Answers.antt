use Rattle.std.proofs.Common.{arith, sym, ◌∙◌, subst}
use Rattle.calculus.specs.Meaning.{proc_written}
use Rattle.tokens.specs.Token.{source}
use Rattle.grammar.specs.declared.dialect.Dialect.TheVariants.{Tutorial}
use Rattle.grammar.specs.Descent.{Descends, fault, runs_last}
use Rattle.token_cursor.specs.Meaning.{most_height, plain_tokens, view}
use Rattle.token_cursor.specs.Reading.{of_proc}
use Rattle.rho_parser.proofs.Wholes.{at_most, none_found, refused_as, whole, unfinished, stuck, deep, not_deep, same}
use Rattle.rho_parser.proofs.whole.parse.Goals as goal

pub returns-then-ended-clause-found : goal.returns-then-ended-clause-found
returns-then-ended-clause-found c =
    let part = c.in-Ok.part in
    (part.height, omega (arith, c.in-Ok.ensures.room, c.most_height.ensures), whole c.args.tokens.now (of_proc part) (view c.par.new.self.cursor.rest.now) c.requires (at_most c.most_height.ensures (runs_last c.in-Ok.ensures.reads)) (sym c.ended.ensures ∙ c.if-ended.true))

pub returns-then-ended-clause-only : goal.returns-then-ended-clause-only
returns-then-ended-clause-only c =
    let part = c.in-Ok.part in
    let f = whole c.args.tokens.now (of_proc part) (view c.par.new.self.cursor.rest.now) c.requires (at_most c.most_height.ensures (runs_last c.in-Ok.ensures.reads)) (sym c.ended.ensures ∙ c.if-ended.true) in
    λ p h l s. same c.args.tokens.now (proc_written part.value) p part.height h f s

pub returns-else-ended-clause-refused : goal.returns-else-ended-clause-refused
returns-else-ended-clause-refused c = refused_as c.args.tokens.now _ _ c.refuse.ensures (unfinished c.args.tokens.now c.par.new.self.cursor.rest.now (of_proc c.in-Ok.part) (at_most c.most_height.ensures (runs_last c.in-Ok.ensures.reads)) (sym c.ended.ensures ∙ c.if-ended.false) c.place-at.result c.place-at.ensures)

pub returns-else-ended-clause-found : goal.returns-else-ended-clause-found
returns-else-ended-clause-found c = none_found _ _ _ c.refuse.ensures

pub returns-else-ended-clause-only : goal.returns-else-ended-clause-only
returns-else-ended-clause-only c =
    let f = unfinished c.args.tokens.now c.par.new.self.cursor.rest.now (of_proc c.in-Ok.part) (at_most c.most_height.ensures (runs_last c.in-Ok.ensures.reads)) (sym c.ended.ensures ∙ c.if-ended.false) c.place-at.result c.place-at.ensures in
    λ p h l s. absurd (f.nothing p h s)

pub returns-in-Err-Syntax-clause-refused : goal.returns-in-Err-Syntax-clause-refused
returns-in-Err-Syntax-clause-refused c = stuck c.args.tokens.now c.par.new.self.cursor.rest.now (subst (λ e. Descends source Tutorial most_height (plain_tokens c.args.tokens.now) (fault e (view c.par.new.self.cursor.rest.now))) c.in-Err-Syntax.field-0-is (at_most c.most_height.ensures (runs_last c.in-Err-Syntax.ensures.reads))) c.place-at-in-Err-Syntax.result c.place-at-in-Err-Syntax.ensures

pub returns-in-Err-Syntax-clause-only : goal.returns-in-Err-Syntax-clause-only
returns-in-Err-Syntax-clause-only c =
    let f = stuck c.args.tokens.now c.par.new.self.cursor.rest.now (subst (λ e. Descends source Tutorial most_height (plain_tokens c.args.tokens.now) (fault e (view c.par.new.self.cursor.rest.now))) c.in-Err-Syntax.field-0-is (at_most c.most_height.ensures (runs_last c.in-Err-Syntax.ensures.reads))) c.place-at-in-Err-Syntax.result c.place-at-in-Err-Syntax.ensures in
    λ p h l s. absurd (f.nothing p h s)

pub returns-in-Err-TooDeep-clause-refused : goal.returns-in-Err-TooDeep-clause-refused
returns-in-Err-TooDeep-clause-refused c = deep c.args.tokens.now c.par.new.self.cursor.rest.now (subst (λ e. Descends source Tutorial most_height (plain_tokens c.args.tokens.now) (fault e (view c.par.new.self.cursor.rest.now))) c.in-Err-TooDeep.field-0-is (at_most c.most_height.ensures (runs_last c.in-Err-TooDeep.ensures.reads))) c.place-at-in-Err-TooDeep.result c.place-at-in-Err-TooDeep.ensures

pub returns-in-Err-TooDeep-clause-only : goal.returns-in-Err-TooDeep-clause-only
returns-in-Err-TooDeep-clause-only c =
    let f = deep c.args.tokens.now c.par.new.self.cursor.rest.now (subst (λ e. Descends source Tutorial most_height (plain_tokens c.args.tokens.now) (fault e (view c.par.new.self.cursor.rest.now))) c.in-Err-TooDeep.field-0-is (at_most c.most_height.ensures (runs_last c.in-Err-TooDeep.ensures.reads))) c.place-at-in-Err-TooDeep.result c.place-at-in-Err-TooDeep.ensures in
    λ p h l s. absurd (not_deep c.args.tokens.now c.place-at-in-Err-TooDeep.result h p f l s)
