use Rattle.std.proofs.Common.{map, ap, ◌∙◌, subst, arith}
use Rattle.calculus.specs.Code.{code}
use Rattle.calculus.specs.Rows.{channels}
use Rattle.calculus.specs.Storing.{AreRising}
use Rattle.rho_term.specs.Rows.{row_of_op}
use Rattle.state_reader.proofs.Fronts.{bind-channels, bind-codes, row-targets, storable-of}
use Rattle.state_reader.proofs.front.may_be_stored.Goals as goal

pub channels_rise-requires : goal.channels_rise-requires
channels_rise-requires c =
    row-targets (row_of_op c.args.op.now) _ c.requires.row (omega (arith, c.requires.length)) (ap (λ o. channels (row_of_op o).part) c.in-Consume.is ∙ bind-channels c.in-Consume.binds.items)

pub returns-in-Consume-clause-yes : goal.returns-in-Consume-clause-yes
returns-in-Consume-clause-yes c = λ e.
    storable-of (row_of_op c.args.op.now) _ c.requires.row (omega (arith, c.requires.length)) (ap (λ o. map code (channels (row_of_op o).part)) c.in-Consume.is ∙ bind-codes c.in-Consume.binds.items) (c.channels_rise.ensures.yes e)

pub returns-in-Consume-clause-no : goal.returns-in-Consume-clause-no
returns-in-Consume-clause-no c = λ e h. c.channels_rise.ensures.no e (subst AreRising (ap (λ o. map code (channels (row_of_op o).part)) c.in-Consume.is ∙ bind-codes c.in-Consume.binds.items) h.rising)
