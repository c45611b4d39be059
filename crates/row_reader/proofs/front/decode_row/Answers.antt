use Rattle.row_reader.proofs.Found.{err-same, cut-found, whole-found, wrong-found}
use Rattle.row_reader.proofs.front.decode_row.Goals as goal

pub returns-in-Err-clause-cut : goal.returns-in-Err-clause-cut
returns-in-Err-clause-cut c = λ q. cut-found c.in-Err.fault c.row_fault.ensures (err-same q) c.in-Err.ensures.begun

pub returns-in-Err-clause-whole : goal.returns-in-Err-clause-whole
returns-in-Err-clause-whole c = λ few q. whole-found c.in-Err.fault c.row_fault.ensures (err-same q) c.in-Err.ensures.refuses few

pub returns-in-Err-clause-wrong : goal.returns-in-Err-clause-wrong
returns-in-Err-clause-wrong c = λ few q. wrong-found c.in-Err.fault c.row_fault.ensures (err-same q) c.in-Err.ensures.refuses few
