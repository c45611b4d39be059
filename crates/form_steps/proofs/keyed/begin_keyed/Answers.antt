use Rattle.form_steps.proofs.Keys.{key_before, key_only, opened_by}
use Rattle.form_steps.proofs.Opened.{both_shorten, same_holds}
use Rattle.std.proofs.Common.{sym, ◌<◌, ◌∙◌}
use Rattle.form_steps.proofs.keyed.begin_keyed.Goals as goal

pub returns-then-not-has_parenthesis-clause-reads : goal.returns-then-not-has_parenthesis-clause-reads
returns-then-not-has_parenthesis-clause-reads c = key_only _ _ _ c.args.key _ (sym c.has_parenthesis.ensures ∙ c.if-not-has_parenthesis.true) (opened_by _ _ _ _ c.args.key _ c.key_mark.ensures c.opens-opened.ensures.reads)

pub returns-clause-reads : goal.returns-clause-reads
returns-clause-reads c = key_before _ _ _ _ c.args.key _ _ (sym c.has_parenthesis.ensures ∙ c.if-not-has_parenthesis.false) (opened_by _ _ _ _ c.args.key _ c.key_mark.ensures c.opens-opened.ensures.reads) c.then_mark.ensures.reads

pub returns-clause-room : goal.returns-clause-room
returns-clause-room c = same_holds (λ _. 0 < c.args.free) _ _ c.then_mark.ensures.same c.opens-opened.ensures.room

pub returns-clause-shorter : goal.returns-clause-shorter
returns-clause-shorter c = both_shorten _ _ _ _ _ c.opens-opened.ensures.shorter c.then_mark.ensures.shorter
