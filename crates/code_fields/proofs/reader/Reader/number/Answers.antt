use Rattle.std.proofs.Common.{[], refl, arith}
use Rattle.code_faults.proofs.Numbers.{four}
use Rattle.code_faults.proofs.BegunMore.{number-cut, number-none}
use Rattle.code_faults.proofs.LeafRefusals.{number-others, number-short}
use Rattle.code_faults.proofs.Blaming.{not-canonical}
use Rattle.code_faults.proofs.BlamedLeaves.{number-wrong, number-is}
use Rattle.code_fields.proofs.reader.Reader.number.Goals as goal
use Rattle.code_fields.proofs.reader.Reader.number.Goals.{then-low-most-via-then-low-most, then-low-most-via-else-low-most+then-high-least, then-n-least-via-then-n-least, then-n-least-via-else-n-least+then-most-n}

pub returns-else-most-n-clause-is : goal.returns-else-most-n-clause-is
returns-else-most-n-clause-is c =
    four c.args.self.now.input.now c.from_be_bytes-n.result (omega arith) (omega arith) (omega arith) (omega arith) (omega arith) (omega arith) c.from_be_bytes-n.ensures

pub returns-then-n-least-clause-refuses : goal.returns-then-n-least-clause-refuses
returns-then-n-least-clause-refuses c =
    let is = four c.args.self.now.input.now c.from_be_bytes-n.result (omega arith) (omega arith) (omega arith) (omega arith) (omega arith) (omega arith) c.from_be_bytes-n.ensures in
    number-others c.from_be_bytes-n.result _ is (omega arith)
    (elim c.then-n-least.branch [
      | then-n-least-via-then-n-least w ↦ λ m p q r. omega (arith, w.if-n-least.true)
      | then-n-least-via-else-n-least+then-most-n w ↦ λ m p q r. omega (arith, w.if-most-n.true)
    ])

pub returns-in_default-clause-refuses : goal.returns-in_default-clause-refuses
returns-in_default-clause-refuses c = number-short c.args.self.now.whole c.args.self.now.input.now (omega arith)

pub returns-then-low-most-clause-wrong : goal.returns-then-low-most-clause-wrong
returns-then-low-most-clause-wrong c = not-canonical (number-wrong c.place-at.ensures (λ n a b d x y q.
    let w = c.number_bounds-low.ensures.all n x y d q in
    elim c.then-low-most.branch [
      | then-low-most-via-then-low-most k ↦ omega (arith, w.0, b, k.if-low-most.true)
      | then-low-most-via-else-low-most+then-high-least k ↦ omega (arith, w.1, a, k.if-high-least.true)
    ]))

pub returns-then-n-least-clause-wrong : goal.returns-then-n-least-clause-wrong
returns-then-n-least-clause-wrong c =
    let is = four c.args.self.now.input.now c.from_be_bytes-n.result (omega arith) (omega arith) (omega arith) (omega arith) (omega arith) (omega arith) c.from_be_bytes-n.ensures in
    not-canonical (number-wrong c.place-at.ensures (λ n a b d x y q.
    let k = number-is c.from_be_bytes-n.result n _ x y is (omega arith) d q in
    elim c.then-n-least.branch [
      | then-n-least-via-then-n-least w ↦ omega (arith, k, a, w.if-n-least.true)
      | then-n-least-via-else-n-least+then-most-n w ↦ omega (arith, k, b, w.if-most-n.true)
    ]))

pub returns-in_default-clause-begun : goal.returns-in_default-clause-begun
returns-in_default-clause-begun c = λ s m. record {
  after = [];
  place = refl;
  begun = number-cut c.args.self.now.input.now c.number_bounds-low.result.0 c.number_bounds-low.result.1 c.args.least c.args.most
      (λ n h p q. c.number_bounds-low.ensures.only n (omega arith) h p q) c.number_bounds-low.ensures.order (omega arith) (omega arith) (omega arith) m;
}

pub returns-then-n-least-clause-begun : goal.returns-then-n-least-clause-begun
returns-then-n-least-clause-begun c = λ s m. record { after = c.args.self.now.input.now; place = omega arith; begun = number-none c.args.self.now.input.now c.args.least c.args.most m }

pub returns-then-low-most-clause-begun : goal.returns-then-low-most-clause-begun
returns-then-low-most-clause-begun c = λ s m. record { after = c.args.self.now.input.now; place = omega arith; begun = number-none c.args.self.now.input.now c.args.least c.args.most m }
