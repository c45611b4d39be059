use Rattle.std.proofs.Common.{◌≤◌, ap, subst, arith, length, length-append, map}
use Rattle.std.specs.Prelude.{Err}
use Rattle.calculus.specs.Bytes.{joined}
use Rattle.calculus.specs.Rows.{row_code}
use Rattle.input_faults.specs.declared.state_fault.StateFault.{StateFault}
use Rattle.state_reader.specs.Files.{in_row, IsWrongAt, past_end}
use Rattle.state_reader.proofs.Heading.{place-same}
use Rattle.state_reader.proofs.Laid.{laid, left-within}
use Rattle.state_reader.proofs.Misplaced.{one-fault}
use Rattle.state_reader.proofs.state.read_order.Goals as goal

pub returns-in-Err-take_rows-clause-short : goal.returns-in-Err-take_rows-clause-short
returns-in-Err-take_rows-clause-short c = λ at e.
    let h = c.in-Ok.ensures in
    let p = c.in-Err-take_rows.ensures.cut at (ap (λ (f : StateFault). Err f) (one-fault c.in-Err-take_rows.fault _ e)) in
    (p.0, in_row (laid c.args.bytes.now c.in-Ok.header.0.0 c.in-Ok.header.2.now p.1.1 c.in-Ok.header.1 p.1.0 h.is p.1.2.is h.long h.small (omega (arith, p.1.2.few)) p.1.2.order) p.1.2.few p.1.3.cut p.1.3.none)

pub returns-in-Err-take_rows-clause-wrong : goal.returns-in-Err-take_rows-clause-wrong
returns-in-Err-take_rows-clause-wrong c = λ at e few.
    let h = c.in-Ok.ensures in
    let w = left-within c.args.bytes.now c.in-Ok.header.0.0 c.in-Ok.header.2.now c.in-Ok.header.1 h.is in
    let p = c.in-Err-take_rows.ensures.wrong at (ap (λ (f : StateFault). Err f) (one-fault c.in-Err-take_rows.fault _ e)) (omega (arith, w, few)) w in
    in_row (laid c.args.bytes.now c.in-Ok.header.0.0 c.in-Ok.header.2.now p.1 c.in-Ok.header.1 p.0 h.is p.2.is h.long h.small (omega (arith, p.2.few)) p.2.order) p.2.few p.3 p.4

pub returns-then-not-is_empty-clause-wrong : goal.returns-then-not-is_empty-clause-wrong
returns-then-not-is_empty-clause-wrong c = λ at e few.
    let h = c.in-Ok.ensures in
    let r = c.in-Ok-take_rows in
    let w = left-within c.args.bytes.now c.in-Ok.header.0.0 c.in-Ok.header.2.now c.in-Ok.header.1 h.is in
    let v : length r.read.2.now ≤ length c.in-Ok.header.2.now = omega (arith, ap length r.ensures.is, length-append (joined (map row_code r.read.0.items)) r.read.2.now) in
    subst (λ z. IsWrongAt z c.args.bytes.now) (place-same e)
    (past_end (laid c.args.bytes.now c.in-Ok.header.0.0 c.in-Ok.header.2.now r.read.2.now c.in-Ok.header.1 r.read.0.items h.is r.ensures.is h.long h.small (omega (arith, r.ensures.number)) r.ensures.order) r.ensures.number
    (omega (arith, c.saturating_sub-at.ensures, w, v)) (grind (arith, c.is_empty.ensures, c.if-not-is_empty.true)))
