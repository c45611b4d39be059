use Rattle.std.proofs.Common.{arith}
use Rattle.code_order.proofs.Seen.{pair-seen}
use Rattle.code_order.proofs.coded.Tuple2TermTermHasCode.suits.Goals as goal

pub returns : goal.returns
returns c h = pair-seen c.args.self.now c.saturating_add-length.result (omega arith) (omega arith) (c.is_faultless.ensures.faults c.if-not-is_faultless.false) (c.is_faultless-2.ensures.faults h) c.is_faultless.ensures.normal c.is_faultless-2.ensures.normal
