use Rattle.std.proofs.Common.{length, sym, ◌∙◌, arith}
use Rattle.std.proofs.lemmas.Bool.{eqb-false}
use Rattle.tables.proofs.Handing.{first-case}
use Rattle.tables.proofs.matches.match_first_case.Goals as goal

pub match_case-requires-clause-case : goal.match_case-requires-clause-case
match_case-requires-clause-case c =
    let n = eqb-false (length c.args.cases.now) 0 (sym c.is_empty.ensures ∙ c.if-is_empty.false) in
    first-case c.args.cases.now c.index-cases-0.result (omega arith) c.index-cases-0.is c.requires.cases
