use Rattle.std.proofs.Common.{sym, ◌∙◌, inl}
use Rattle.event_log.specs.View.{header_of, steps_of}
use Rattle.replay_answers.specs.Bases.{asked}
use Rattle.replay_answers.proofs.Headers.{none-is-not-some, header-answered}
use Rattle.replay_runs.proofs.runs.replay.Goals as goal

pub replay_steps-requires-clause-basis : goal.replay_steps-requires-clause-basis
replay_steps-requires-clause-basis g c κs within =
    record { root_is = c.requires.root; ids = c.requires.ids; quiet = c.requires.quiet; closed = c.requires.closed; numberable = c.requires.numberable }

pub replay_steps-requires-clause-right : goal.replay_steps-requires-clause-right
replay_steps-requires-clause-right g c κs within = c.in-Ok.ensures.refusal c.args.base.now c.args.term.now c.requires.root

pub returns-in-Ok-clause-refused : goal.returns-in-Ok-clause-refused
returns-in-Ok-clause-refused g c = λ r e. absurd (none-is-not-some r (sym (c.in-Ok.ensures.refusal c.args.base.now c.args.term.now c.requires.root) ∙ e))

pub returns-in-Err-clause-refused : goal.returns-in-Err-clause-refused
returns-in-Err-clause-refused g c = λ r e. sym (c.in-Err.ensures.refusal c.args.base.now c.args.term.now c.requires.root).1 ∙ e

pub returns-in-Err-clause-header : goal.returns-in-Err-clause-header
returns-in-Err-clause-header g c = λ _. (c.in-Err.ensures.refusal c.args.base.now c.args.term.now c.requires.root).1

pub returns-in-Err-clause-answered : goal.returns-in-Err-clause-answered
returns-in-Err-clause-answered g c =
    let log = c.args.log in
    inl (header-answered (asked c.args.base.now c.args.term.now c.args.source.now.0 c.args.prices.now) (header_of log.header) (steps_of log.steps.items) c.in-Err.fault (c.in-Err.ensures.refusal c.args.base.now c.args.term.now c.requires.root).1)
