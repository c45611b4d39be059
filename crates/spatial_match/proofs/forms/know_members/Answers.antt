use Rattle.std.proofs.Common.{length, sym, ◌∙◌, arith}
use Rattle.std.proofs.lemmas.Bool.{eqb-true, eqb-false}
use Rattle.spatial_match.proofs.Compared.{no_empty, no_tuple}
use Rattle.spatial_match.proofs.forms.know_members.Goals as goal

pub returns-then-is_empty : goal.returns-then-is_empty
returns-then-is_empty c =
    let e = eqb-true (length c.args.members.now) 0 (sym c.is_empty.ensures ∙ c.if-is_empty.true) in
    no_empty c.args.members.now (omega arith)

pub returns : goal.returns
returns c =
    let n = eqb-false (length c.args.members.now) 0 (sym c.is_empty.ensures ∙ c.if-is_empty.false) in
    no_tuple c.args.members.now c.index-members-0.result (omega arith) c.index-members-0.is c.know_term.ensures
