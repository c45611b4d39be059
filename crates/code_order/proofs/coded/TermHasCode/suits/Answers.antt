use Rattle.std.proofs.Common.{arith}
use Rattle.calculus.specs.Form.{term}
use Rattle.code_order.proofs.Seen.{seen}
use Rattle.code_order.proofs.coded.TermHasCode.suits.Goals as goal

pub returns : goal.returns
returns c h = seen term c.args.self.now c.code_len.result c.code_len.ensures (omega arith) (c.is_faultless.ensures.faults h) c.is_faultless.ensures.normal
