use Rattle.std.proofs.Common.{arith}
use Rattle.code_faults.proofs.Cut.{bounds, past-end, in-end}
use Rattle.code_faults.proofs.BegunLeaves.{between-cut}
use Rattle.code_fields.proofs.reader.number_bounds.Goals as goal

pub returns-in-len1-clause-all : goal.returns-in-len1-clause-all
returns-in-len1-clause-all c = λ n x y h e.
    let bs = c.args.bytes.now in
    let w = bounds bs x y n h e in (
      omega (arith, w.low, c.from_be_bytes.ensures, past-end bs 1 0 (omega arith), past-end bs 2 0 (omega arith), past-end bs 3 0 (omega arith)),
      omega (arith, w.high, c.from_be_bytes-in-len1.ensures, in-end bs 0 255 (omega arith), past-end bs 1 255 (omega arith), past-end bs 2 255 (omega arith), past-end bs 3 255 (omega arith)),
    )

pub returns-in-len2-clause-all : goal.returns-in-len2-clause-all
returns-in-len2-clause-all c = λ n x y h e.
    let bs = c.args.bytes.now in
    let w = bounds bs x y n h e in (
      omega (arith, w.low, c.from_be_bytes-in-len2.ensures, past-end bs 2 0 (omega arith), past-end bs 3 0 (omega arith)),
      omega (arith, w.high, c.from_be_bytes-in-len2-2.ensures, in-end bs 0 255 (omega arith), in-end bs 1 255 (omega arith), past-end bs 2 255 (omega arith), past-end bs 3 255 (omega arith)),
    )

pub returns-in-len3-clause-all : goal.returns-in-len3-clause-all
returns-in-len3-clause-all c = λ n x y h e.
    let bs = c.args.bytes.now in
    let w = bounds bs x y n h e in (
      omega (arith, w.low, c.from_be_bytes-in-len3.ensures, past-end bs 3 0 (omega arith)),
      omega (arith, w.high, c.from_be_bytes-in-len3-2.ensures, in-end bs 0 255 (omega arith), in-end bs 1 255 (omega arith), in-end bs 2 255 (omega arith), past-end bs 3 255 (omega arith)),
    )

pub returns-in-len4-up-clause-all : goal.returns-in-len4-up-clause-all
returns-in-len4-up-clause-all c = λ n x y h e.
    let bs = c.args.bytes.now in
    let w = bounds bs x y n h e in (
      omega (arith, w.low, c.from_be_bytes-n.ensures),
      omega (arith, w.high, c.from_be_bytes-n.ensures, in-end bs 0 255 (omega arith), in-end bs 1 255 (omega arith), in-end bs 2 255 (omega arith), in-end bs 3 255 (omega arith)),
    )

pub returns-in-empty-clause-only : goal.returns-in-empty-clause-only
returns-in-empty-clause-only c = λ n l h p q.
    let bs = c.args.bytes.now in
    between-cut bs n l h (λ i. omega (arith, c.type_inv.bytes i))
    (omega (arith, p, past-end bs 0 0 (omega arith), past-end bs 1 0 (omega arith), past-end bs 2 0 (omega arith), past-end bs 3 0 (omega arith)))
    (omega (arith, q, past-end bs 0 255 (omega arith), past-end bs 1 255 (omega arith), past-end bs 2 255 (omega arith), past-end bs 3 255 (omega arith)))

pub returns-in-len1-clause-only : goal.returns-in-len1-clause-only
returns-in-len1-clause-only c = λ n l h p q.
    let bs = c.args.bytes.now in
    between-cut bs n l h (λ i. omega (arith, c.type_inv.bytes i))
    (omega (arith, p, c.from_be_bytes.ensures, past-end bs 1 0 (omega arith), past-end bs 2 0 (omega arith), past-end bs 3 0 (omega arith)))
    (omega (arith, q, c.from_be_bytes-in-len1.ensures, in-end bs 0 255 (omega arith), past-end bs 1 255 (omega arith), past-end bs 2 255 (omega arith), past-end bs 3 255 (omega arith)))

pub returns-in-len2-clause-only : goal.returns-in-len2-clause-only
returns-in-len2-clause-only c = λ n l h p q.
    let bs = c.args.bytes.now in
    between-cut bs n l h (λ i. omega (arith, c.type_inv.bytes i))
    (omega (arith, p, c.from_be_bytes-in-len2.ensures, past-end bs 2 0 (omega arith), past-end bs 3 0 (omega arith)))
    (omega (arith, q, c.from_be_bytes-in-len2-2.ensures, in-end bs 0 255 (omega arith), in-end bs 1 255 (omega arith), past-end bs 2 255 (omega arith), past-end bs 3 255 (omega arith)))

pub returns-in-len3-clause-only : goal.returns-in-len3-clause-only
returns-in-len3-clause-only c = λ n l h p q.
    let bs = c.args.bytes.now in
    between-cut bs n l h (λ i. omega (arith, c.type_inv.bytes i))
    (omega (arith, p, c.from_be_bytes-in-len3.ensures, past-end bs 3 0 (omega arith)))
    (omega (arith, q, c.from_be_bytes-in-len3-2.ensures, in-end bs 0 255 (omega arith), in-end bs 1 255 (omega arith), in-end bs 2 255 (omega arith), past-end bs 3 255 (omega arith)))

pub returns-in-len4-up-clause-only : goal.returns-in-len4-up-clause-only
returns-in-len4-up-clause-only c = λ n l h p q. absurd (omega (arith, l))

pub returns-in-len1-clause-order : goal.returns-in-len1-clause-order
returns-in-len1-clause-order c = omega (arith, c.from_be_bytes.ensures, c.from_be_bytes-in-len1.ensures)

pub returns-in-len2-clause-order : goal.returns-in-len2-clause-order
returns-in-len2-clause-order c = omega (arith, c.from_be_bytes-in-len2.ensures, c.from_be_bytes-in-len2-2.ensures)

pub returns-in-len3-clause-order : goal.returns-in-len3-clause-order
returns-in-len3-clause-order c = omega (arith, c.from_be_bytes-in-len3.ensures, c.from_be_bytes-in-len3-2.ensures)
