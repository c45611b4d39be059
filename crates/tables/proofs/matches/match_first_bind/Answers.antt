use Rattle.std.proofs.Common.{length, sym, ◌∙◌, arith}
use Rattle.std.proofs.lemmas.Bool.{eqb-false}
use Rattle.tables.proofs.Handing.{first-bind}
use Rattle.tables.proofs.matches.match_first_bind.Goals as goal

pub match_bind-requires-clause-bind : goal.match_bind-requires-clause-bind
match_bind-requires-clause-bind c =
    let n = eqb-false (length c.args.binds.now) 0 (sym c.is_empty.ensures ∙ c.if-is_empty.false) in
    let r = first-bind c.args.binds.now c.index-binds-0.result (omega arith) c.index-binds-0.is c.requires.binds in
    r.closed

pub match_bind-requires-clause-short_bind : goal.match_bind-requires-clause-short_bind
match_bind-requires-clause-short_bind c =
    let n = eqb-false (length c.args.binds.now) 0 (sym c.is_empty.ensures ∙ c.if-is_empty.false) in
    let r = first-bind c.args.binds.now c.index-binds-0.result (omega arith) c.index-binds-0.is c.requires.binds in
    r.short
