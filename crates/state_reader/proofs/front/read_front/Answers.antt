use Rattle.std.proofs.Common.{ap}
use Rattle.std.specs.Prelude.{Err}
use Rattle.rho_term.specs.Rows.{row_of_op}
use Rattle.row_reader.specs.declared.front.RowFault.{RowFault}
use Rattle.row_reader.proofs.Found.{err-same}
use Rattle.state_reader.proofs.Fronts.{cut-there, no-front, other-front}
use Rattle.state_reader.proofs.front.read_front.Goals as goal

pub returns-in-Err-clause-cut : goal.returns-in-Err-clause-cut
returns-in-Err-clause-cut c = λ q.
    let p = ap (λ (f : RowFault). Err f) (err-same q) in
    cut-there c.args.bytes.now (c.in-Err.ensures.cut p) (λ few r y k s e. c.in-Err.ensures.whole few p r y k s e)

pub returns-in-Err-clause-wrong : goal.returns-in-Err-clause-wrong
returns-in-Err-clause-wrong c = λ few q.
    let p = ap (λ (f : RowFault). Err f) (err-same q) in
    no-front c.args.bytes.now (λ r x y k s e. c.in-Err.ensures.wrong few p r x y k s e)

pub returns-then-not-may_be_stored-clause-wrong : goal.returns-then-not-may_be_stored-clause-wrong
returns-then-not-may_be_stored-clause-wrong c = λ few q.
    other-front c.args.bytes.now _ (row_of_op c.in-Ok.read.0) few c.in-Ok.ensures.row.is c.in-Ok.ensures.row.fits (c.may_be_stored.ensures.no c.if-not-may_be_stored.true)
