use Rattle.std.proofs.Common.{◌+◌, ◌≡◌, [], ◌∷◌, arith, sum_by, subst, ap, ◌∙◌}
use Rattle.std.proofs.lemmas.List.Sums.{sum_by-cons}
use Rattle.calculus.specs.Operators.{unary_answer, binary_answer}
use Rattle.calculus.specs.Methods.{method_answer}
use Rattle.value_ops.specs.Answers.{Answers}
use Rattle.rho_eval.proofs.Operated.{told, bytes_in}
use Rattle.rho_eval.proofs.operation.call.Goals as goal

pub returns : goal.returns
returns c =
    let b = c.args.budget in
    let t = c.args.target.now in let xs = c.args.args.now.items in
    let a = method_answer c.args.name.now t xs in
    let e = c.in_ok-price.ensures (sum_by bytes_in (t ∷ xs)) (omega (arith, c.saturating_add-bytes.ensures, c.code_len.ensures, c.bytes_of.ensures, sum_by-cons bytes_in t xs)) in
    let h = subst (λ ys. Answers (method_answer c.args.name.now t ys) c.on_target-answer.result) c.as_slice.ensures.value c.on_target-answer.ensures in
    told (λ q. q.price) (λ q. q.value) b.prices.now b.cap b.price c.in_ok-price.price (t ∷ xs) a c.answered.result e.0 (c.answered.ensures a h)
