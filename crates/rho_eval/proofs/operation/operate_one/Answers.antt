use Rattle.std.proofs.Common.{◌+◌, ◌≡◌, [], ◌∷◌, arith, sum_by, subst, ap, ◌∙◌}
use Rattle.std.proofs.lemmas.List.Sums.{sum_by-cons}
use Rattle.calculus.specs.Operators.{unary_answer, binary_answer}
use Rattle.calculus.specs.Methods.{method_answer}
use Rattle.value_ops.specs.Answers.{Answers}
use Rattle.rho_eval.proofs.Operated.{told, bytes_in}
use Rattle.rho_eval.proofs.operation.operate_one.Goals as goal

pub returns : goal.returns
returns c =
    let b = c.args.budget in
    let a = unary_answer c.args.op c.args.arg.now in
    let e = c.in_ok-price.ensures (bytes_in c.args.arg.now) c.code_len-bytes.ensures in
    told (λ q. q.price) (λ q. q.value) b.prices.now b.cap b.price c.in_ok-price.price (c.args.arg.now ∷ []) a c.answered.result (omega (arith, e.0)) (c.answered.ensures a c.unary-answer.ensures)
