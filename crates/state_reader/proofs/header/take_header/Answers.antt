use Rattle.std.proofs.Common.{sym, ap, ◌∙◌, length, arith}
use Rattle.std.specs.Prelude.{Err}
use Rattle.std.proofs.lemmas.List.{length-take, length-drop}
use Rattle.input_faults.specs.declared.state_fault.StateFault.{StateFault}
use Rattle.state_reader.proofs.Heading.{cut-behind, header-is, length-same}
use Rattle.state_reader.proofs.Misplaced.{one-fault}
use Rattle.state_reader.proofs.header.take_header.Goals as goal

pub returns-in-Err-clause-wrong : goal.returns-in-Err-clause-wrong
returns-in-Err-clause-wrong c = λ at e. c.in-Err.ensures.wrong at (ap (λ (f : StateFault). Err f) (one-fault c.in-Err.fault _ e))

pub returns-then-left-lt-AFTER_HEADING-clause-cut : goal.returns-then-left-lt-AFTER_HEADING-clause-cut
returns-then-left-lt-AFTER_HEADING-clause-cut c = λ at e. (sym (length-same e), cut-behind c.args.bytes.now c.in-Ok.left.now c.in-Ok.ensures.is (omega arith))

pub root_of-root-requires : goal.root_of-root-requires
root_of-root-requires c = omega (arith, ap length c.front_of.ensures, length-take 32 c.in-Ok.left.now)

pub front_of-requires-2 : goal.front_of-requires-2
front_of-requires-2 c = omega (arith, ap length c.rest_of-others.ensures, length-drop 32 c.in-Ok.left.now)

pub number_of-number-requires : goal.number_of-number-requires
number_of-number-requires c = omega (arith, ap length c.front_of-2.ensures, length-take 8 c.rest_of-others.result.now, ap length c.rest_of-others.ensures, length-drop 32 c.in-Ok.left.now)

pub rest_of-requires : goal.rest_of-requires
rest_of-requires c = omega (arith, ap length c.rest_of-others.ensures, length-drop 32 c.in-Ok.left.now)

pub returns-clause-is : goal.returns-clause-is
returns-clause-is c = header-is c.args.bytes.now c.in-Ok.left.now _ _ _ _ c.in-Ok.ensures.is (c.root_of-root.ensures ∙ c.front_of.ensures) c.rest_of-others.ensures (sym c.number_of-number.ensures ∙ c.front_of-2.ensures) c.rest_of.ensures
