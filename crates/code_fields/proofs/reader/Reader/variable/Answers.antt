use Rattle.std.proofs.Common.{arith, subst, sym, ◌∙◌, inr, refl, []}
use Rattle.calculus.specs.Bytes.{be32}
use Rattle.calculus.specs.Form.{HasVariable}
use Rattle.calculus.proofs.Tails.{length-be32}
use Rattle.code_faults.specs.Scopes.{scope_of, sense_of}
use Rattle.code_faults.proofs.Exit.{exit}
use Rattle.code_faults.proofs.Unnamed.{blamed-begun}
use Rattle.code_faults.proofs.Kids.{no_false}
use Rattle.code_faults.proofs.LeafRefusals.{short-denied}
use Rattle.code_faults.proofs.TextRefusals.{index-refused}
use Rattle.code_faults.proofs.BlamedLeaves.{number-is, index-wrong, variable-blamed}
use Rattle.code_fields.proofs.reader.Reader.variable.Goals as goal

pub returns-then-begins_index-clause-refuses : goal.returns-then-begins_index-clause-refuses
returns-then-begins_index-clause-refuses c = λ i h v. short-denied c.args.self.now.whole c.args.self.now.input.now (be32 i) (omega (arith, length-be32 i))

pub returns-in_err-index-clause-refuses : goal.returns-in_err-index-clause-refuses
returns-in_err-index-clause-refuses c = exit _ _ _ c.from_residual.ensures.1 (λ i h v. c.in_err-index.ensures.refuses.no i (omega arith) (omega arith) h)

pub returns-clause-refuses : goal.returns-clause-refuses
returns-clause-refuses c = λ i h v. index-refused c.in_ok-index.index i _ c.in_ok-index.ensures.is (omega arith) h
    (λ w. no_false (sym (c.has_variable.ensures.all (subst (λ j. HasVariable (scope_of c.args.scope.now.items) j (sense_of c.args.sense)) (sym w) v)) ∙ c.if-has_variable.false))

pub returns-in_err-index-clause-wrong : goal.returns-in_err-index-clause-wrong
returns-in_err-index-clause-wrong c = exit _ _ _ c.from_residual.ensures.1 (index-wrong _ c.in_err-index.ensures.place (λ i h. c.in_err-index.ensures.refuses.no i (omega arith) (omega arith) h))

pub returns-then-self-lt4-clause-wrong : goal.returns-then-self-lt4-clause-wrong
returns-then-self-lt4-clause-wrong c = variable-blamed c.blamed.ensures (omega arith) (omega arith) (λ i h v x y q. no_false (sym (c.begins_index.ensures.all i x y h v q) ∙ c.if-begins_index.false))

pub returns-clause-wrong : goal.returns-clause-wrong
returns-clause-wrong c = variable-blamed c.blamed-2.ensures (omega arith) (omega arith) (λ i h v x y q.
    let w = number-is c.in_ok-index.index i _ x y c.in_ok-index.ensures.is (omega arith) h q in
    no_false (sym (c.has_variable.ensures.all (subst (λ j. HasVariable (scope_of c.args.scope.now.items) j (sense_of c.args.sense)) (sym w) v)) ∙ c.if-has_variable.false))

pub returns-then-begins_index-clause-begun : goal.returns-then-begins_index-clause-begun
returns-then-begins_index-clause-begun c = λ tag s. record { after = []; place = refl; begun = inr (c.begins_index.ensures.only c.if-begins_index.true (omega arith)) }

pub returns-in_err-index-clause-begun : goal.returns-in_err-index-clause-begun
returns-in_err-index-clause-begun c = λ tag. exit _ _ _ c.from_residual.ensures.1 (λ s. absurd (omega (arith, c.in_err-index.ensures.ends (omega arith) (omega arith))))

pub returns-then-self-lt4-clause-begun : goal.returns-then-self-lt4-clause-begun
returns-then-self-lt4-clause-begun c = λ tag s. blamed-begun tag (omega arith) (omega arith) refl c.blamed.ensures

pub returns-clause-begun : goal.returns-clause-begun
returns-clause-begun c = λ tag s. blamed-begun tag (omega arith) (omega arith) refl c.blamed-2.ensures
