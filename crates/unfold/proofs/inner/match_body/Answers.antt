use Rattle.std.proofs.Common.{[]}
use Rattle.rho_eval.proofs.Parts.{operand}
use Rattle.unfold.proofs.Cases.{cases-closed, short-cases}
use Rattle.unfold.proofs.inner.match_body.Goals as goal

pub case_body-requires-clause-target : goal.case_body-requires-clause-target
case_body-requires-clause-target c = let b = c.args.budget in (operand b.prices.now b.cap b.price c.in_ok-found.found.price c.args.target c.in_ok-found.found.value c.requires.closed.1.0.1.0 c.in_ok-found.ensures).closed

pub case_body-requires-clause-short_target : goal.case_body-requires-clause-short_target
case_body-requires-clause-short_target c = let b = c.args.budget in (operand b.prices.now b.cap b.price c.in_ok-found.found.price c.args.target c.in_ok-found.found.value c.requires.closed.1.0.1.0 c.in_ok-found.ensures).short

pub case_body-requires-clause-cases : goal.case_body-requires-clause-cases
case_body-requires-clause-cases c = cases-closed [] c.args.cases.items c.requires.closed.1.0.1.1.0.1

pub case_body-requires-clause-short_cases : goal.case_body-requires-clause-short_cases
case_body-requires-clause-short_cases c = short-cases c.args.target c.args.cases.items c.args.bytes c.requires.bytes c.if-bytes-ge-LONG_CODE.false
