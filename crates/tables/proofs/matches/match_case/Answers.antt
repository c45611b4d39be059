use Rattle.std.proofs.Common.{inl}
use Rattle.tables.proofs.Handing.{pattern-ready}
use Rattle.tables.proofs.matches.match_case.Goals as goal

pub first_match-requires-clause-pattern : goal.first_match-requires-clause-pattern
first_match-requires-clause-pattern c = let r = pattern-ready c.args.case.now c.requires.case in inl r.closed

pub first_match-requires-clause-short_pattern : goal.first_match-requires-clause-short_pattern
first_match-requires-clause-short_pattern c = let r = pattern-ready c.args.case.now c.requires.case in r.short

pub first_match-requires-clause-target : goal.first_match-requires-clause-target
first_match-requires-clause-target c = c.requires.target.closed

pub first_match-requires-clause-short_target : goal.first_match-requires-clause-short_target
first_match-requires-clause-short_target c = c.requires.target.short
