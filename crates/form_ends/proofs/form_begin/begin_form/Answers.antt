use Rattle.form_ends.proofs.Cycle.{at_step}
use Rattle.form_ends.specs.Reading.{after_form_step}
use Rattle.form_steps.specs.Parts.{after_key}
use Rattle.token_cursor.proofs.Steps.{leave}
use Rattle.form_ends.proofs.form_begin.begin_form.Goals as goal

pub returns-in_err-begin_keyed-clause-reads : goal.returns-in_err-begin_keyed-clause-reads
returns-in_err-begin_keyed-clause-reads c = leave after_form_step _ _ c.from_residual.ensures.1 c.in_err-begin_keyed.ensures.reads

pub returns-in_err-names-in-New-clause-reads : goal.returns-in_err-names-in-New-clause-reads
returns-in_err-names-in-New-clause-reads c = leave after_form_step _ _ c.from_residual-in_err-names-in-New.ensures.1 (at_step after_key _ _ c.in-New.is c.in_ok-begin_keyed.ensures.reads _ (c.in_err-names-in-New.ensures.reads c.args.free))

pub returns-in_ok-names-in-New-clause-reads : goal.returns-in_ok-names-in-New-clause-reads
returns-in_ok-names-in-New-clause-reads c = λ out h. at_step after_key _ _ c.in-New.is c.in_ok-begin_keyed.ensures.reads out (c.in_ok-names-in-New.ensures.reads c.args.free out h)

pub returns-in-If-clause-reads : goal.returns-in-If-clause-reads
returns-in-If-clause-reads c = at_step after_key _ _ c.in-If.is c.in_ok-begin_keyed.ensures.reads

pub returns-in-Contract-clause-reads : goal.returns-in-Contract-clause-reads
returns-in-Contract-clause-reads c = at_step after_key _ _ c.in-Contract.is c.in_ok-begin_keyed.ensures.reads

pub returns-in-For-clause-reads : goal.returns-in-For-clause-reads
returns-in-For-clause-reads c = at_step after_key _ _ c.in-For.is c.in_ok-begin_keyed.ensures.reads

pub returns-in-Match-clause-reads : goal.returns-in-Match-clause-reads
returns-in-Match-clause-reads c = at_step after_key _ _ c.in-Match.is c.in_ok-begin_keyed.ensures.reads
