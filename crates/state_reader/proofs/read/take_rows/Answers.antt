use Rattle.std.proofs.Common.{◌+◌, refl, ◌∙◌, ap, arith, length, length-append, map}
use Rattle.calculus.specs.Bytes.{joined}
use Rattle.calculus.specs.Rows.{row_code}
use Rattle.input_faults.specs.declared.state_fault.StateFault.{StateFault}
use Rattle.state_reader.proofs.Placing.{rows-grown, count-grown}
use Rattle.std.specs.Prelude.{Err}
use Rattle.state_reader.proofs.Misplaced.{one-fault}
use Rattle.state_reader.proofs.Beginning.{none-in-hand}
use Rattle.state_reader.proofs.read.take_rows.Goals as goal

pub loop-i-init : goal.loop-i-init
loop-i-init c = record { hand = none-in-hand _ c.list_for_rows.ensures c.list_for_rows-2.ensures c.new.ensures.empty refl; number = ap length c.list_for_rows.ensures; is = rw c.list_for_rows.ensures refl }

pub loop-i-preserved : goal.loop-i-preserved
loop-i-preserved c = record {
  hand = c.in-Ok.ensures.hand;
  number = count-grown _ _ _ _ c.in-Ok.ensures.adds ∙ ap (λ n. n + 1) c.loop-i.invariant.number;
  is = rows-grown _ _ _ _ _ c.loop-i.invariant.is c.in-Ok.ensures.adds;
}

pub returns-in-Err-clause-cut : goal.returns-in-Err-clause-cut
returns-in-Err-clause-cut c = λ at e.
    let p = c.in-Err.ensures.cut at (ap (λ (f : StateFault). Err f) (one-fault c.in-Err.fault _ e)) in
    (p.0, (c.loop-i.read.rows.items, c.loop-i.left.now, record { is = c.loop-i.invariant.is; order = c.loop-i.invariant.hand.order; few = omega (arith, c.loop-i.invariant.number) }, p.1))

pub returns-in-Err-clause-wrong : goal.returns-in-Err-clause-wrong
returns-in-Err-clause-wrong c = λ at e few within.
    let all = ap length c.loop-i.invariant.is ∙ length-append (joined (map row_code c.loop-i.read.rows.items)) c.loop-i.left.now in
    let p = c.in-Err.ensures.wrong at (ap (λ (f : StateFault). Err f) (one-fault c.in-Err.fault _ e)) (omega (arith, all)) (omega (arith, all)) in
    (c.loop-i.read.rows.items, c.loop-i.left.now, record { is = c.loop-i.invariant.is; order = c.loop-i.invariant.hand.order; few = omega (arith, c.loop-i.invariant.number) }, p.0, p.1)
