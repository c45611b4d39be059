use Rattle.form_steps.specs.Parts.{after_bundle}
use Rattle.form_steps.proofs.Handed.{if_read}
use Rattle.form_steps.proofs.Opened.{down, no_more, open_read, under_first}
use Rattle.form_steps.proofs.Turning.{chosen}
use Rattle.std.proofs.Common.{◌<◌}
use Rattle.form_steps.proofs.part.begin_bundle.Goals as goal

pub returns-in-Ok-clause-reads : goal.returns-in-Ok-clause-reads
returns-in-Ok-clause-reads c = λ side out h. chosen _ _ (c.rights-rights.ensures side) (c.in-Ok.ensures.reads c.args.free _ _ (λ _. after_bundle side c.rights-rights.result) (open_read _ _ _ _ _ _ c.opens_bundle-opened.ensures.reads) out h)

pub returns-in-Ok-clause-room : goal.returns-in-Ok-clause-room
returns-in-Ok-clause-room c = if_read (λ _. 0 < c.args.free) _ c.in-Ok.ensures.same c.opens_bundle-opened.ensures.room

pub returns-in-Ok-clause-shorter : goal.returns-in-Ok-clause-shorter
returns-in-Ok-clause-shorter c = under_first c.in-Ok.ensures.shorter (no_more _ c.opens_bundle-opened.ensures.shorter)

pub returns-in-Err-clause-reads : goal.returns-in-Err-clause-reads
returns-in-Err-clause-reads c = λ side. chosen _ _ (c.rights-rights.ensures side) (c.in-Err.ensures.reads c.args.free _ _ (λ _. after_bundle side c.rights-rights.result) (open_read _ _ _ _ _ _ c.opens_bundle-opened.ensures.reads))

pub returns-in-Err-clause-shorter : goal.returns-in-Err-clause-shorter
returns-in-Err-clause-shorter c = down c.in-Err.ensures.shorter (no_more _ c.opens_bundle-opened.ensures.shorter)
